-- The ranges of cells, one behind the other.
use Rattle.std.proofs.Common.{◌≡◌, refl, ap, subst, ℕ, suc, ◌<◌, ◌≤◌, ◌⊎◌, inl, inr, List, [], ◌∷◌, ◌++◌, arith, Contains}
use Rattle.std.specs.List.{AllByRecursion}
use Rattle.netlist_spec.specs.CellBits.{Bit}
use Rattle.netlist_spec.specs.GateRanges.{Region}
use Rattle.cone_split.proofs.Cells.{contains_head, contains_tail, contains_cases}
use Rattle.guard_laws.specs.Rows.{AreInRow}
use Rattle.guard_cells.specs.Cells.{Cell, ranges_from, end_from}

pub weaker : {A : Type 0} (P Q : A → Type 0) → ((x : A) → P x → Q x) → (xs : List A) → AllByRecursion P xs → AllByRecursion Q xs
weaker P Q f [] all = tt
weaker P Q f (x ∷ xs) all = (f x all.0, weaker P Q f xs all.1)

pub ranges_join : (first : ℕ) (cs ds : List Cell) → ranges_from first (cs ++ ds) ≡ ranges_from first cs ++ ranges_from (end_from first cs) ds
ranges_join first [] ds = refl
ranges_join first (c ∷ cs) ds = ap (λ (rs : List Region). record { bit = c.0; first = first; end = suc c.1 } ∷ rs) (ranges_join (suc c.1) cs ds)

pub end_join : (first : ℕ) (cs ds : List Cell) → end_from first (cs ++ ds) ≡ end_from (end_from first cs) ds
end_join first [] ds = refl
end_join first (c ∷ cs) ds = end_join (suc c.1) cs ds

-- Ranges that have gates stand in a row.
pub in_row : (first : ℕ) (cs : List Cell) → AllByRecursion (λ r. r.first < r.end) (ranges_from first cs) → AreInRow first (ranges_from first cs) (end_from first cs)
in_row first [] some = refl
in_row first (c ∷ cs) some = (refl, some.0, in_row (suc c.1) cs some.1)

-- so each cell stands between the ends of the row
pub between : (first : ℕ) (cs : List Cell) → AllByRecursion (λ r. r.first < r.end) (ranges_from first cs) → (first ≤ end_from first cs) × AllByRecursion (λ c. (first ≤ c.1) × (c.1 < end_from first cs)) cs
between first [] some = (omega arith, tt)
between first (c ∷ cs) some =
    let (low, rest) = between (suc c.1) cs some.1 in
    let some_gate : first < suc c.1 = some.0 in (
      omega arith,
      (
        (omega arith, omega arith),
        weaker (λ d. (suc c.1 ≤ d.1) × (d.1 < end_from (suc c.1) cs)) (λ d. (first ≤ d.1) × (d.1 < end_from (suc c.1) cs)) (λ d h. let (a, b) = h in (omega arith, b)) cs rest,
      ),
    )

-- and each range ends within it
pub within : (first : ℕ) (cs : List Cell) → AllByRecursion (λ r. r.first < r.end) (ranges_from first cs) → AllByRecursion (λ r. r.end ≤ end_from first cs) (ranges_from first cs)
within first [] some = tt
within first (c ∷ cs) some = ((between (suc c.1) cs some.1).0, within (suc c.1) cs some.1)

-- ---- cells and their ranges

-- What holds of each cell holds of its range.
pub of_ranges : (P : Bit → ℕ → Type 0) (first : ℕ) (cs : List Cell) → AllByRecursion (λ c. P c.0 c.1) cs → AllByRecursion (λ r. (n : ℕ) → r.end ≡ suc n → P r.bit n) (ranges_from first cs)
of_ranges P first [] all = tt
of_ranges P first (c ∷ cs) all = (λ n e. subst (P c.0) (let same : c.1 ≡ n = omega arith in same) all.0, of_ranges P (suc c.1) cs all.1)

pub of_range_bits : (P : Bit → Type 0) (first : ℕ) (cs : List Cell) → AllByRecursion (λ c. P c.0) cs → AllByRecursion (λ r. P r.bit) (ranges_from first cs)
of_range_bits P first [] all = tt
of_range_bits P first (c ∷ cs) all = (all.0, of_range_bits P (suc c.1) cs all.1)

abbrev range_at : ℕ → Cell → Region
range_at first c = record { bit = c.0; first = first; end = suc c.1 }

pub range_of_cell : (first : ℕ) (cs : List Cell) (c : Cell) → Contains cs c → (r : Region) × Contains (ranges_from first cs) r × (r.bit ≡ c.0)
range_of_cell first [] c has = absurd (let h = has.1 in omega arith)
range_of_cell first (d ∷ cs) c has = by_place (contains_cases d c cs has) (range_of_cell (suc d.1) cs c)
  where
    by_place : (d ≡ c) ⊎ Contains cs c → (Contains cs c → (r : Region) × Contains (ranges_from (suc d.1) cs) r × (r.bit ≡ c.0)) → (r : Region) × Contains (range_at first d ∷ ranges_from (suc d.1) cs) r × (r.bit ≡ c.0)
    by_place (inl e) later = (range_at first d, contains_head (range_at first d) (ranges_from (suc d.1) cs), ap (λ (x : Cell). x.0) e)
    by_place (inr h) later = let (r, inside, same) = later h in (r, contains_tail (range_at first d) r (ranges_from (suc d.1) cs) inside, same)
