-- Ranges one behind the other.
use Rattle.std.proofs.Common.{refl, ℕ, zero, suc, ◌<◌, ◌≤◌, ◌⊎◌, inl, inr, List, [], ◌∷◌, length, get_or, arith, Contains}
use Rattle.std.specs.Prelude.{AllPairs}
use Rattle.netlist_spec.specs.GateRanges.{Region}
use Rattle.guard_laws.specs.Rows.{AreInRow}
use Rattle.guard_laws.proofs.Lists.{inside, below_or}

-- ---- a row

pub in_row : (at : ℕ) (rs : List Region) (end : ℕ) → AreInRow at rs end → (at ≤ end) × ((k : ℕ) (d : Region) → k < length rs → (at ≤ (get_or rs k d).first) × ((get_or rs k d).first < (get_or rs k d).end) × ((get_or rs k d).end ≤ end))
in_row at [] end row = (omega arith, λ k d h. absurd (omega arith))
in_row at (r ∷ rs) end (first, some, rest) = let (low, each) = in_row r.end rs end rest in (omega arith, here low each)
  where
    here : r.end ≤ end → ((k : ℕ) (d : Region) → k < length rs → (r.end ≤ (get_or rs k d).first) × ((get_or rs k d).first < (get_or rs k d).end) × ((get_or rs k d).end ≤ end))
        → (k : ℕ) (d : Region) → k < suc (length rs) → (at ≤ (get_or (r ∷ rs) k d).first) × ((get_or (r ∷ rs) k d).first < (get_or (r ∷ rs) k d).end) × ((get_or (r ∷ rs) k d).end ≤ end)
    here low each zero d h = (omega arith, some, low)
    here low each (suc k) d h = let (a, b, c) = each k d (omega arith) in (omega arith, b, c)

pub row_order : (at : ℕ) (rs : List Region) (end : ℕ) → AreInRow at rs end → AllPairs (λ r s. r.end ≤ s.first) rs
row_order at [] end row i j d less h = absurd (omega arith)
row_order at (r ∷ rs) end (first, some, rest) zero zero d less h = absurd (omega arith)
row_order at (r ∷ rs) end (first, some, rest) zero (suc j) d less h = ((in_row r.end rs end rest).1 j d (omega arith)).0
row_order at (r ∷ rs) end (first, some, rest) (suc i) zero d less h = absurd (omega arith)
row_order at (r ∷ rs) end (first, some, rest) (suc i) (suc j) d less h = row_order r.end rs end rest i j d (omega arith) (omega arith)

pub row_has : (at : ℕ) (rs : List Region) (end : ℕ) → AreInRow at rs end → (n : ℕ) → at ≤ n → n < end → (r : Region) × Contains rs r × (r.first ≤ n) × (n < r.end)
row_has at [] end row n low high = absurd (omega arith)
row_has at (r ∷ rs) end (first, some, rest) n low high = by_place (λ h. row_has r.end rs end rest n h high) (below_or n r.end)
  where
    by_place : (r.end ≤ n → (s : Region) × Contains rs s × (s.first ≤ n) × (n < s.end)) → (n < r.end) ⊎ (r.end ≤ n) → (s : Region) × Contains (r ∷ rs) s × (s.first ≤ n) × (n < s.end)
    by_place later (inl h) = (r, (0, omega arith, refl), omega arith, h)
    by_place later (inr h) = let (s, (k, inside, e), a, b) = later h in (s, (suc k, omega arith, e), a, b)

-- ---- steps without faults are evaluations
