-- In a guard's gate list a cell changes no bit but its own, within one cycle.
use Rattle.std.specs.Prelude.{◌≡◌, ℕ, ◌+◌, ◌<◌, ◌≤◌, Bool, List, [], ◌∷◌, ◌++◌, length, map, Some, slice_get, slice_range}
use Rattle.std.specs.List.{flat_map}
use Rattle.netlist_spec.specs.SourceRun.{Bits}
use Rattle.netlist_spec.specs.Gates.{Machine, ForcedNets, GateValues, GateStep, latch_nets}
use Rattle.guard_spec.specs.Codes.{Code, Mode, detect, correct, encoded, checks_of, apart}
use Rattle.guard_spec.specs.Words.{Words, Layout, bits_at, codewords}
use Rattle.netlist_spec.specs.CellBits.{latch_bit, output_bit}
use Rattle.guard_spec.specs.Regions.{Guarded, IsUntouched}

-- the outputs that a guard ought to have, without the rails: the source's, and then the check bits by word
abbrev pub right_outputs : Code → Layout → Bits → Bits
right_outputs code l y = y ++ flat_map (λ w. checks_of code (bits_at w y)) l.output

-- What holds of each state word as the latches show it. The first word begins behind `at` places.
abbrev pub StateWordsAre : Code → (List ℕ → Bits → Type 0) → Words → Bits → ℕ → Type 0
StateWordsAre code P [] bits at = Unit {0}
StateWordsAre code P (w ∷ ws) bits at =
    P w (slice_range bits at (at + length w + code.columns)) × StateWordsAre code P ws bits (at + length w + code.columns)

-- A word is near the codeword of the source's state: equal to it in detection, and in correction at most so many places
-- apart as a guard reads its state within.
abbrev pub IsNear : Code → Mode → ℕ → Bits → List ℕ → Bits → Type 0
IsNear code detect radius s w z = z ≡ encoded code (bits_at w s)
IsNear code correct radius s w z = apart z (encoded code (bits_at w s)) ≤ radius

-- In values of one cycle in which the source steps from state s to `next` and shows y: where the shown state words are
-- near, each next stored bit and each output, rails left out, of whose bit no cell is faulty has its right value.
pub record KeepsBits (g : Guarded) (code : Code) (mode : Mode) (radius : ℕ) (l : Layout) (s y next : Bits) (faults : ForcedNets) (v : ℕ → Bool) : Type 0 where
  pub stores : StateWordsAre code (IsNear code mode radius s) l.state (map v (latch_nets g.machine)) 0
      → (i : ℕ) (d : ℕ) → slice_get (map (λ r. r.d) g.machine.latches) i ≡ Some d → IsUntouched g faults (latch_bit i)
      → Some (v d) ≡ slice_get (codewords code l.state next) i
  pub outputs : StateWordsAre code (IsNear code mode radius s) l.state (map v (latch_nets g.machine)) 0
      → (i : ℕ) (o : ℕ) → slice_get g.machine.outputs i ≡ Some o → i < length (right_outputs code l y) → IsUntouched g faults (output_bit i)
      → Some (v o) ≡ slice_get (right_outputs code l y) i

-- The clause on contained cells: for all values of one cycle, whatever is stored and whatever cells are faulty, and for
-- every step of the source with these inputs, from any state.
abbrev pub Counts : Guarded → Machine → Code → Mode → ℕ → Layout → Type 0
Counts g source code mode radius l =
    (x s y next stored : Bits) (faults : ForcedNets) (v : ℕ → Bool)
    → GateStep source [] x s y next → GateValues g.machine stored x faults v
    → KeepsBits g code mode radius l s y next faults v
