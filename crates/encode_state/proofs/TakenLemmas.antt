-- Words that are taken in order.
use Rattle.std.proofs.Common.{◌≡◌, refl, sym, ◌∙◌, ap, ap₂, ℕ, zero, suc, ◌+◌, ◌<◌, ◌≤◌, List, [], ◌∷◌, ◌++◌, length, map, take, drop, get_or, arith, add-one, append_assoc, append-nil}
use Rattle.std.specs.List.{AllByRecursion, flat_map, range_with_len}
use Rattle.std.proofs.lemmas.Grind.{flat_map-append}
use Rattle.guard_spec.specs.Words.{Words, AreTakenBy, all_numbers}

pub range_split : (a b n c d : ℕ) → n ≡ a + b → d ≡ c + a → range_with_len c n ≡ range_with_len c a ++ range_with_len d b
range_split zero b n c d e f =
    let g : n ≡ b = omega arith in
    let h : c ≡ d = omega arith in
    ap₂ (λ x y. range_with_len x y) h g
range_split (suc a) b n c d e f =
    let g : n ≡ suc (a + b) = omega arith in
    ap (range_with_len c) g ∙ ap (λ xs. c ∷ xs) (range_split a b (a + b) (c + 1) d refl (omega arith))

-- one word more, behind full ones
pub taken_push : (k : ℕ) (words : Words) (w : List ℕ) → AllByRecursion (λ v. length v ≡ k) words → 1 ≤ length w → length w ≤ k → AreTakenBy k (words ++ w ∷ [])
taken_push k [] w full some most = (some, most)
taken_push k (v ∷ []) w full some most = (full.0, (some, most))
taken_push k (v ∷ u ∷ rest) w full some most = (full.0, taken_push k (u ∷ rest) w full.1 some most)

pub full_push : (k : ℕ) (words : Words) (w : List ℕ) → AllByRecursion (λ v. length v ≡ k) words → length w ≡ k → AllByRecursion (λ v. length v ≡ k) (words ++ w ∷ [])
full_push k [] w full e = (e, tt)
full_push k (v ∷ vs) w full e = (full.0, full_push k vs w full.1 e)

pub numbers_push : (words : Words) (w : List ℕ) → all_numbers (words ++ w ∷ []) ≡ all_numbers words ++ w
numbers_push [] w = append-nil w
numbers_push (v ∷ vs) w = ap (λ xs. v ++ xs) (numbers_push vs w) ∙ sym (append_assoc v (all_numbers vs) w)

pub numbers_split : (words : Words) (i : ℕ) (d : List ℕ) → i < length words → all_numbers words ≡ (all_numbers (take i words) ++ get_or words i d) ++ all_numbers (drop (suc i) words)
numbers_split [] i d h = absurd (omega arith)
numbers_split (w ∷ ws) zero d h = refl
numbers_split (w ∷ ws) (suc i) d h =
    ap (λ xs. w ++ xs) (numbers_split ws i d (omega arith))
    ∙ (sym (append_assoc w (all_numbers (take i ws) ++ get_or ws i d) (all_numbers (drop (suc i) ws)))
    ∙ ap (λ xs. xs ++ all_numbers (drop (suc i) ws)) (sym (append_assoc w (all_numbers (take i ws)) (get_or ws i d))))

pub taken_lengths : (k : ℕ) (words : Words) → 1 ≤ k → AreTakenBy k words → AllByRecursion (λ w. (1 ≤ length w) × (length w ≤ k)) words
taken_lengths k [] some t = tt
taken_lengths k (w ∷ []) some t = ((t.0, t.1), tt)
taken_lengths k (w ∷ v ∷ rest) some t = let e : length w ≡ k = t.0 in ((omega arith, omega arith), taken_lengths k (v ∷ rest) some t.1)
