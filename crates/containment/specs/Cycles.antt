-- One cycle of a guard beside a step of its source.
use Rattle.std.specs.Prelude.{ℕ, ◌≤◌, Bool, List, [], map, Contains}
use Rattle.std.specs.List.{AllByRecursion, enumerate_from}
use Rattle.netlist_spec.specs.SourceRun.{Bits}
use Rattle.netlist_spec.specs.Gates.{Machine, ForcedNets, GateValues, GateStep, latch_nets}
use Rattle.guard_spec.specs.Codes.{Code, encoded, apart, correct}
use Rattle.guard_spec.specs.Words.{Layout, bits_at, codewords, output_word}
use Rattle.guard_spec.specs.Regions.{Guarded}
use Rattle.guard_spec.specs.Count.{StateWordsAre, IsNear}

-- the bits that the latches show, and those that they store at the cycle's end
abbrev pub shown_state : Guarded → (ℕ → Bool) → Bits
shown_state g v = map v (latch_nets g.machine)

abbrev pub next_stored : Guarded → (ℕ → Bool) → Bits
next_stored g v = map v (map (λ r. r.d) g.machine.latches)

-- Each faulty cell is one of these cells.
abbrev pub AreAmong : List ℕ → ForcedNets → Type 0
AreAmong cells faults = AllByRecursion (λ (e : ℕ × Bool). Contains cells e.0) faults

-- The source steps from s to `next`, with inputs x and outputs y. With the same inputs the guard has the values v, where
-- some bits are stored and the faulty cells are among some cells.
pub record IsCycle (g : Guarded) (source : Machine) (cells : List ℕ) (x s y next stored : Bits) (faults : ForcedNets) (v : ℕ → Bool) : Type 0 where
  pub step : GateStep source [] x s y next
  pub values : GateValues g.machine stored x faults v
  pub among : AreAmong cells faults

-- Each output word is at most n places apart from the codeword of the source's word.
abbrev pub OutputsAreNear : Code → Layout → (p n : ℕ) → Bits → Bits → Type 0
OutputsAreNear code l p n y z =
    AllByRecursion (λ (w : ℕ × List ℕ). apart (output_word code p z w) (encoded code (bits_at w.1 y)) ≤ n) (enumerate_from 0 l.output)

-- At most n places are wrong: of all bits that are stored next, of each of their words, and of each output word.
pub record IsWrongInFew (g : Guarded) (code : Code) (l : Layout) (p n : ℕ) (y next : Bits) (v : ℕ → Bool) : Type 0 where
  pub stored : apart (next_stored g v) (codewords code l.state next) ≤ n
  pub words : StateWordsAre code (IsNear code correct n next) l.state (next_stored g v) 0
  pub outputs : OutputsAreNear code l p n y (map v g.machine.outputs)
