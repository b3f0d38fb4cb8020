-- The rows of a cover that is read have a place for each input.
use Rattle.std.proofs.Common.{◌≡◌, refl, sym, ◌∙◌, ap, subst, ℕ, zero, suc, ◌+◌, ◌*◌, ◌^◌, ◌/◌, ◌<◌, ◌≤◌, List, [], ◌∷◌, map, length, Bool, true, false, Some, None, ◌==◌, arith, lit<, lit≤}
use Rattle.std.specs.List.{AllByRecursion}
use Rattle.std.specs.Int.{bit_at}
use Rattle.std.proofs.lemmas.Nat.Bits.{bit_at-suc, bit_at_lowest}
use Rattle.std.proofs.Math.Nat.{pow-succ'}
use Rattle.netlist_spec.specs.Statements.{Cell, model_line, inputs_line, outputs_line, clock_line, names_line, row_line, latch_line, subckt_line, end_line, EachMayFollow}
use Rattle.netlist_spec.specs.Reads.{Numbered, care_bit, value_bit, number_by, row_of, rows_at, cover_of}
use Rattle.netlist_spec.specs.Covers.{has_bit}
use Rattle.netlist_spec.specs.FileRules.{IsRowOf}

small_care : (c : Cell) → care_bit c ≤ 1
small_care None = lit≤ tt
small_care (Some b) = lit≤ tt

small_value : (c : Cell) → value_bit c ≤ 1
small_value None = lit≤ tt
small_value (Some false) = lit≤ tt
small_value (Some true) = lit≤ tt

care_below : (cells : List Cell) → number_by care_bit cells < 2 ^ length cells
care_below [] = lit< tt
care_below (c ∷ cs) =
    let h = care_below cs in
    let s = small_care c in
    rw (pow-succ' 2 (length cs)) (omega arith)

lowest : (b n : ℕ) → b ≤ 1 → bit_at (b + 2 * n) 0 ≡ b
lowest b n h = bit_at_lowest (b + 2 * n) ∙ omega arith

higher : (b n i : ℕ) → b ≤ 1 → bit_at (b + 2 * n) (suc i) ≡ bit_at n i
higher b n i h = let e : (b + 2 * n) / 2 ≡ n = omega arith in bit_at-suc (b + 2 * n) i ∙ ap (λ k. bit_at k i) e

bit_within : (c : Cell) → (value_bit c == 1) ≡ true → (care_bit c == 1) ≡ true
bit_within None h = h
bit_within (Some false) h = refl
bit_within (Some true) h = refl

value_within : (cells : List Cell) (i : ℕ) → has_bit (number_by value_bit cells) i ≡ true → has_bit (number_by care_bit cells) i ≡ true
value_within [] i h = h
value_within (c ∷ cs) zero h =
    ap (λ b. b == 1) (lowest (care_bit c) (number_by care_bit cs) (small_care c))
    ∙ bit_within c (ap (λ b. b == 1) (sym (lowest (value_bit c) (number_by value_bit cs) (small_value c))) ∙ h)
value_within (c ∷ cs) (suc i) h =
    ap (λ b. b == 1) (higher (care_bit c) (number_by care_bit cs) i (small_care c))
    ∙ value_within cs i (ap (λ b. b == 1) (sym (higher (value_bit c) (number_by value_bit cs) i (small_value c))) ∙ h)

row_is : (p : ℕ) (cells : List Cell) → length cells ≡ p → IsRowOf p (row_of cells)
row_is p cells e = record { care = subst (λ k. number_by care_bit cells < 2 ^ k) e (care_below cells); value = value_within cells }

rows_are : (p : ℕ) (rows : List (List Cell × Bool)) → AllByRecursion (λ r. length r.0 ≡ p) rows → AllByRecursion (IsRowOf p) (cover_of rows).rows
rows_are p [] h = tt
rows_are p (r ∷ rs) h = (row_is p r.0 h.0, rows_are p rs h.1)

as_long : (p q : ℕ) → p ≡ q → (rows : List (List Cell × Bool)) → AllByRecursion (λ r. length r.0 ≡ p) rows → AllByRecursion (λ r. length r.0 ≡ q) rows
as_long p q e [] h = tt
as_long p q e (r ∷ rs) h = (h.0 ∙ e, as_long p q e rs h.1)

after_row : (cells : List Cell) (b : Bool) (ls : List Numbered) → EachMayFollow (row_line cells b ∷ map (λ n. n.1) ls) → AllByRecursion (λ r. length r.0 ≡ length cells) (rows_at ls)
after_row cells b [] h = tt
after_row cells b ((n, row_line more again) ∷ ls) h = (h.0.0, as_long (length more) (length cells) h.0.0 (rows_at ls) (after_row more again ls h.1))
after_row cells b ((n, model_line x) ∷ ls) h = tt
after_row cells b ((n, inputs_line ps) ∷ ls) h = tt
after_row cells b ((n, outputs_line ps) ∷ ls) h = tt
after_row cells b ((n, clock_line ps) ∷ ls) h = tt
after_row cells b ((n, names_line ins out) ∷ ls) h = tt
after_row cells b ((n, latch_line d q c i) ∷ ls) h = tt
after_row cells b ((n, subckt_line m bs) ∷ ls) h = tt
after_row cells b ((n, end_line) ∷ ls) h = tt

after_names : (ins : List (List ℕ)) (out : List ℕ) (ls : List Numbered) → EachMayFollow (names_line ins out ∷ map (λ n. n.1) ls) → AllByRecursion (λ r. length r.0 ≡ length ins) (rows_at ls)
after_names ins out [] h = tt
after_names ins out ((n, row_line more again) ∷ ls) h = (h.0, as_long (length more) (length ins) h.0 (rows_at ls) (after_row more again ls h.1))
after_names ins out ((n, model_line x) ∷ ls) h = tt
after_names ins out ((n, inputs_line ps) ∷ ls) h = tt
after_names ins out ((n, outputs_line ps) ∷ ls) h = tt
after_names ins out ((n, clock_line ps) ∷ ls) h = tt
after_names ins out ((n, names_line more other) ∷ ls) h = tt
after_names ins out ((n, latch_line d q c i) ∷ ls) h = tt
after_names ins out ((n, subckt_line m bs) ∷ ls) h = tt
after_names ins out ((n, end_line) ∷ ls) h = tt

-- the rows of the cover that a `.names` line begins
pub cover_rows : (ins : List (List ℕ)) (out : List ℕ) (ls : List Numbered) → EachMayFollow (names_line ins out ∷ map (λ n. n.1) ls) → AllByRecursion (IsRowOf (length ins)) (cover_of (rows_at ls)).rows
cover_rows ins out ls h = rows_are (length ins) (rows_at ls) (after_names ins out ls h)
