-- The labels of a guard whose gates stand bit by bit.
use Rattle.std.specs.Prelude.{◌≡◌, ℕ, ◌+◌, List, [], ◌∷◌, ◌++◌, map, length}
use Rattle.std.specs.List.{range_with_len}
use Rattle.netlist_spec.specs.Netlist.{Name}
use Rattle.guard_spec.specs.Codes.{Code}
use Rattle.guard_spec.specs.Words.{Layout}
use Rattle.netlist_spec.specs.Written.{Label, given, store, next, check, rail, inner}
use Rattle.size_laws.specs.Labels.{word_labels}

-- so many inner cells for each bit, and then the bit's own cell
abbrev pub labels_from : ℕ → List (ℕ × Label) → List Label
labels_from first [] = []
labels_from first (bit ∷ bits) = map inner (range_with_len first bit.0) ++ bit.1 ∷ labels_from (first + bit.0) bits

-- The data inputs, the latches, and the gates bit by bit: latch places, outputs of the source, check outputs and rails.
pub record IsLabelledByBits (code : Code) (l : Layout) (rails : ℕ) (inputs outputs : List Name) (bits : List (ℕ × Label)) (labels : List Label) : Type 0 where
  pub own : map (λ bit. bit.1) bits
      ≡ word_labels next (λ w. length w + code.columns) l.state ++ map (λ n. given n) outputs
      ++ word_labels check (λ w. code.columns) l.output ++ map rail (range_with_len 0 rails)
  pub all : labels ≡ map (λ n. given n) inputs ++ word_labels store (λ w. length w + code.columns) l.state ++ labels_from 0 bits
