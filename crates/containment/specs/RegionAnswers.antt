-- What each region of a guard answers, in every valuation in which its own gates have their answers.
use Rattle.std.specs.Prelude.{◌≡◌, ℕ, ◌+◌, ◌<◌, ◌≤◌, ◌↔◌, Bool, [], length, map, Some, slice_get, IsTrue, Contains}
use Rattle.std.specs.List.{range_with_len}
use Rattle.netlist_spec.specs.SourceRun.{Bits}
use Rattle.netlist_spec.specs.Gates.{Machine, ForcedNets, GateStep, AnswersWithin, latch_nets}
use Rattle.guard_spec.specs.Codes.{Code, Mode}
use Rattle.guard_spec.specs.Words.{Layout, codewords}
use Rattle.netlist_spec.specs.CellBits.{latch_bit, output_bit}
use Rattle.guard_spec.specs.Regions.{Guarded, IsBitNet, IsUntouched}
use Rattle.netlist_spec.specs.GateRanges.{Region}
use Rattle.guard_spec.specs.Count.{right_outputs, StateWordsAre, IsNear, Counts}
use Rattle.guard_spec.specs.Rails.{SomeNoCodeword, SomeFarWord, RailsTell, FarRailsTell}

-- The regions of latches and of outputs, rails left out: where the shown state words are near those of the state from
-- which the source steps, the bit's own net has the right value, whatever the other regions do.
pub record RegionsAnswer (g : Guarded) (source : Machine) (code : Code) (mode : Mode) (radius : ℕ) (l : Layout) : Type 0 where
  pub stores : (r : Region) (i n : ℕ) → Contains g.regions r → r.bit ≡ latch_bit i → IsBitNet g (latch_bit i) n
      → (x s y next : Bits) (v : ℕ → Bool) → GateStep source [] x s y next → map v (range_with_len 0 g.machine.inputs) ≡ x
      → StateWordsAre code (IsNear code mode radius s) l.state (map v (latch_nets g.machine)) 0
      → AnswersWithin g.machine.net r.first r.end v → Some (v n) ≡ slice_get (codewords code l.state next) i
  pub shows : (r : Region) (i n : ℕ) → Contains g.regions r → r.bit ≡ output_bit i → IsBitNet g (output_bit i) n
      → (x s y next : Bits) (v : ℕ → Bool) → GateStep source [] x s y next → map v (range_with_len 0 g.machine.inputs) ≡ x
      → StateWordsAre code (IsNear code mode radius s) l.state (map v (latch_nets g.machine)) 0 → i < length (right_outputs code l y)
      → AnswersWithin g.machine.net r.first r.end v → Some (v n) ≡ slice_get (right_outputs code l y) i

-- The regions of rails: the rail is 1 exactly where the values are bad, whatever the other regions do.
abbrev pub RailsAnswerOf : Guarded → ((ℕ → Bool) → Type 0) → Type 0
RailsAnswerOf g Bad =
    (r : Region) (i n : ℕ) → Contains g.regions r → r.bit ≡ output_bit i → IsBitNet g (output_bit i) n → length g.machine.outputs ≤ i + g.rails
    → (v : ℕ → Bool) → AnswersWithin g.machine.net r.first r.end v → IsTrue (v n) ↔ Bad v

abbrev pub RailsAnswer : Guarded → Code → Layout → ℕ → Type 0
RailsAnswer g code l p = RailsAnswerOf g (SomeNoCodeword g code l p)

abbrev pub FarRailsAnswer : Guarded → Code → Layout → ℕ → ℕ → Type 0
FarRailsAnswer g code l p t = RailsAnswerOf g (SomeFarWord g code l p t)

-- In each region of which no cell is faulty each gate has its answer.
abbrev pub UntouchedRegionsAnswer : Guarded → ForcedNets → (ℕ → Bool) → Type 0
UntouchedRegionsAnswer g faults v =
    (r : Region) → Contains g.regions r → IsUntouched g faults r.bit → AnswersWithin g.machine.net r.first r.end v

-- There are at least the outputs of the source and the rails.
abbrev pub HasRailsBehind : Guarded → Machine → Type 0
HasRailsBehind g source = length source.outputs + g.rails ≤ length g.machine.outputs

-- What the regions answer alone, the guard keeps in every cycle, whatever cells are faulty.
pub record RegionsDecide (g : Guarded) (source : Machine) : Type 0 where
  pub counts : (code : Code) (mode : Mode) (radius : ℕ) (l : Layout) → RegionsAnswer g source code mode radius l → Counts g source code mode radius l
  pub rails : (code : Code) (l : Layout) → HasRailsBehind g source → RailsAnswer g code l (length source.outputs) → RailsTell g code l (length source.outputs)
  pub far_rails : (code : Code) (l : Layout) (t : ℕ) → HasRailsBehind g source → FarRailsAnswer g code l (length source.outputs) t → FarRailsTell g code l (length source.outputs) t
