-- Texts that are written item by item.
use Rattle.std.proofs.Common.{◌≡◌, ℕ, zero, suc, ◌+◌, ◌-◌, ◌<◌, ◌≤◌, List, [], ◌∷◌, ◌++◌, Some, length, map, take, get_or, slice_get, sym, refl, ap, ◌∙◌, append_assoc, append-nil, add-one, arith, false, true}
use Rattle.std.specs.List.{flat_map, enumerate_from}
use Rattle.std.proofs.lemmas.Grind.{flat_map-append}
use Rattle.netlist_spec.specs.Netlist.{Row}
use Rattle.netlist_spec.specs.Text.{line_text}
use Rattle.netlist_spec.specs.Gates.{pair_row, pair_rows}
use Rattle.blif_write.specs.Lines.{row_said, rows_text}

-- one more item of a list
step : {A : Type 0} (line : List ℕ → List ℕ) (f : A → List ℕ) (xs : List A) (i : ℕ) (d : A) → i < length xs → flat_map line (map f (take (suc i) xs)) ≡ flat_map line (map f (take i xs)) ++ line (f (get_or xs i d))
step line f [] i d h = absurd (omega arith)
step line f (x ∷ xs) zero d h = append-nil (line (f x))
step line f (x ∷ xs) (suc i) d h = ap (λ l. line (f x) ++ l) (step line f xs i d (omega arith)) ∙ sym (append_assoc (line (f x)) (flat_map line (map f (take i xs))) (line (f (get_or xs i d))))

pub each-step : {A : Type 0} (line : List ℕ → List ℕ) (f : A → List ℕ) (xs : List A) (i : ℕ) (d : A) → i < length xs → flat_map line (map f (take (i + 1) xs)) ≡ flat_map line (map f (take i xs)) ++ line (f (get_or xs i d))
each-step line f xs i d h = rw add-one (step line f xs i d h)

-- one more item of a numbered list
numbered : {A : Type 0} (line : ℕ × A → List ℕ) (a k : ℕ) (xs : List A) (x : A) → slice_get xs k ≡ Some x → flat_map line (enumerate_from a (take (suc k) xs)) ≡ flat_map line (enumerate_from a (take k xs)) ++ line (a + k, x)
numbered line a k [] x e = absurd (cc e)
numbered line a zero (y ∷ xs) x e =
    let same : y ≡ x = cc e in
    let place : a ≡ a + 0 = omega arith in
    append-nil (line (a, y)) ∙ ap (λ z. line (a, z)) same ∙ ap (λ n. line (n, x)) place
numbered line a (suc k) (y ∷ xs) x e =
    let place : (a + 1) + k ≡ a + suc k = omega arith in
    ap (λ l. line (a, y) ++ l) (numbered line (a + 1) k xs x e)
    ∙ sym (append_assoc (line (a, y)) (flat_map line (enumerate_from (a + 1) (take k xs))) (line ((a + 1) + k, x)))
    ∙ ap (λ n. (line (a, y) ++ flat_map line (enumerate_from (a + 1) (take k xs))) ++ line (n, x)) place

pub numbered-step : {A : Type 0} (line : ℕ × A → List ℕ) (a n : ℕ) (xs : List A) (x : A) → a ≤ n → slice_get xs (n - a) ≡ Some x → flat_map line (enumerate_from a (take ((n + 1) - a) xs)) ≡ flat_map line (enumerate_from a (take (n - a) xs)) ++ line (n, x)
numbered-step line a n xs x h e =
    let more : (n + 1) - a ≡ suc (n - a) = omega arith in
    let place : a + (n - a) ≡ n = omega arith in
    ap (λ k. flat_map line (enumerate_from a (take k xs))) more ∙ numbered line a (n - a) xs x e
    ∙ ap (λ k. flat_map line (enumerate_from a (take (n - a) xs)) ++ line (k, x)) place

fused : {A B C : Type 0} (f : B → C) (h : A → B) (xs : List A) → map f (map h xs) ≡ map (λ x. f (h x)) xs
fused f h [] = refl
fused f h (x ∷ xs) = ap (λ l. f (h x) ∷ l) (fused f h xs)

-- the same for what stands for the items
pub each-step_of : {A B : Type 0} (line : List ℕ → List ℕ) (f : B → List ℕ) (h : A → B) (xs : List A) (i : ℕ) (d : A) → i < length xs → flat_map line (map f (map h (take (i + 1) xs))) ≡ flat_map line (map f (map h (take i xs))) ++ line (f (h (get_or xs i d)))
each-step_of line f h xs i d inside =
    ap (flat_map line) (fused f h (take (i + 1) xs)) ∙ each-step line (λ x. f (h x)) xs i d inside
    ∙ ap (λ l. flat_map line l ++ line (f (h (get_or xs i d)))) (sym (fused f h (take i xs)))

-- the rows of a table, pair by pair
pub table-text : (op : ℕ) → rows_text 2 (pair_row op false false) ++ rows_text 2 (pair_row op false true) ++ rows_text 2 (pair_row op true false) ++ rows_text 2 (pair_row op true true) ≡ rows_text 2 (pair_rows op)
table-text op =
    let text = λ (row : Row). line_text (row_said 2 row) in
    let first = pair_row op false false in
    let second = pair_row op false true in
    let third = pair_row op true false in
    ap (λ l. (l ++ rows_text 2 third) ++ rows_text 2 (pair_row op true true)) (sym (flat_map-append text first second))
    ∙ ap (λ l. l ++ rows_text 2 (pair_row op true true)) (sym (flat_map-append text (first ++ second) third))
    ∙ sym (flat_map-append text ((first ++ second) ++ third) (pair_row op true true))
