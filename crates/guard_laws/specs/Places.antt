-- Where the places of words stand among the latches and the outputs of a guard.
use Rattle.std.specs.Prelude.{◌≡◌, ℕ, ◌+◌, ◌*◌, ◌<◌, Bool, Some, List, ◌∷◌, ◌++◌, length, map, slice_get, sum_by}
use Rattle.netlist_spec.specs.Gates.{Machine}
use Rattle.guard_spec.specs.Codes.{Code, checks_of}
use Rattle.guard_spec.specs.Words.{Words, Layout}
use Rattle.netlist_spec.specs.CellBits.{latch_bit, output_bit}
use Rattle.guard_laws.specs.Rows.{right_bit}

-- how many latches the words have
abbrev pub latches_of_words : Code → Words → ℕ
latches_of_words code words = sum_by (λ w. length w + code.columns) words

-- What the bits of a guard ought to be: each place of each state word, each output, and each check bit of each output word.
-- The words before w in the layout are `before`.
pub record HavePlaces (source : Machine) (code : Code) (l : Layout) : Type 0 where
  pub place : (before after : Words) (w : List ℕ) (p j d : ℕ) (u : ℕ → Bool) → l.state ≡ before ++ w ∷ after → slice_get w p ≡ Some j → slice_get (map (λ r. r.d) source.latches) j ≡ Some d
      → right_bit source code l u (latch_bit (latches_of_words code before + p)) ≡ Some (u d)
  pub check : (before after : Words) (w : List ℕ) (c : ℕ) (roots : List ℕ) (u : ℕ → Bool) → l.state ≡ before ++ w ∷ after → c < code.columns → map (λ j. slice_get (map (λ r. r.d) source.latches) j) w ≡ map (λ d. Some d) roots
      → right_bit source code l u (latch_bit (latches_of_words code before + length w + c)) ≡ slice_get (checks_of code (map u roots)) c
  pub output : (i o : ℕ) (u : ℕ → Bool) → slice_get source.outputs i ≡ Some o → right_bit source code l u (output_bit i) ≡ Some (u o)
  pub output_check : (before after : Words) (w : List ℕ) (c : ℕ) (roots : List ℕ) (u : ℕ → Bool) → l.output ≡ before ++ w ∷ after → c < code.columns → map (λ j. slice_get source.outputs j) w ≡ map (λ o. Some o) roots
      → right_bit source code l u (output_bit (length source.outputs + length before * code.columns + c)) ≡ slice_get (checks_of code (map u roots)) c

-- For each latch of the source, the net of the data place of that latch.
pub record AreDataPlaces (code : Code) (words : Words) (inputs latches : ℕ) (nets : List ℕ) : Type 0 where
  pub count : length nets ≡ latches
  pub each : (before after : Words) (w : List ℕ) (p j : ℕ) → words ≡ before ++ w ∷ after → slice_get w p ≡ Some j → slice_get nets j ≡ Some (inputs + (latches_of_words code before + p))
