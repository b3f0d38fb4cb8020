-- Parts of ranges of numbers, and what stands where in a list.
use Rattle.std.proofs.Common.{◌≡◌, refl, ◌∙◌, ap, ap₂, ℕ, zero, suc, ◌+◌, ◌<◌, ◌≤◌, Bool, ◌∷◌, map, Some, slice_get, Contains, arith}
use Rattle.std.specs.Prelude.{slice_range}
use Rattle.std.specs.List.{range_with_len}
use Rattle.cone_split.proofs.Cells.{at_contains}
use Rattle.netlist_spec.specs.SourceRun.{Bits}
use Rattle.guard_laws.proofs.Lists.{slice_of_map, slice_of_range}

-- the bits of a word among those of all latches
pub word_slice : (v : ℕ → Bool) (inputs count at m r : ℕ) → at + m + r ≤ count → slice_range (map v (range_with_len inputs count)) at (at + m + r) ≡ map v (range_with_len (inputs + at) (m + r))
word_slice v inputs count at m r h =
    ap (slice_range (map v (range_with_len inputs count)) at) (let e : at + m + r ≡ at + (m + r) = omega arith in e)
    ∙ slice_of_map v (range_with_len inputs count) at (at + (m + r))
    ∙ ap (map v) (slice_of_range inputs count at (m + r) (omega arith))

pub range_same : (v w : ℕ → Bool) (a n : ℕ) → ((k : ℕ) → a ≤ k → k < a + n → v k ≡ w k) → map v (range_with_len a n) ≡ map w (range_with_len a n)
range_same v w a zero h = refl
range_same v w a (suc n) h = ap₂ (λ (b : Bool) (bs : Bits). b ∷ bs) (h a (omega arith) (omega arith)) (range_same v w (a + 1) n (λ k low high. h k (omega arith) (omega arith)))

pub get_in_range : (a n i : ℕ) → i < n → slice_get (range_with_len a n) i ≡ Some (a + i)
get_in_range a zero i h = absurd (omega arith)
get_in_range a (suc n) zero h = ap (λ (k : ℕ). Some k) (let e : a ≡ a + 0 = omega arith in e)
get_in_range a (suc n) (suc i) h = get_in_range (a + 1) n i (omega arith) ∙ ap (λ (k : ℕ). Some k) (let e : (a + 1) + i ≡ a + suc i = omega arith in e)

pub range_below : (a n k : ℕ) → Contains (range_with_len a n) k → k < a + n
range_below a n k c = let (i, e) = at_contains (range_with_len a n) k c in below a n i k e
  where
    below : (a n i k : ℕ) → slice_get (range_with_len a n) i ≡ Some k → k < a + n
    below a zero i k e = cc e
    below a (suc n) zero k e = let same : a ≡ k = cc e in omega arith
    below a (suc n) (suc i) k e = let h = below (a + 1) n i k e in omega arith
