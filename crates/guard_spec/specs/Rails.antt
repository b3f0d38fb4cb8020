-- What the rails of a guard tell, on its gate list and on its text.
use Rattle.std.specs.Prelude.{◌≡◌, ℕ, ◌+◌, ◌≤◌, ◌⊎◌, ◌↔◌, Bool, List, [], ◌∷◌, length, map, Some, slice_get, slice_range, IsTrue, Contains}
use Rattle.std.specs.List.{AllByRecursion, enumerate_from}
use Rattle.netlist_spec.specs.Netlist.{Name, Statement, Model}
use Rattle.netlist_spec.specs.Models.{latch_outputs, output_nets}
use Rattle.netlist_spec.specs.Fits.{Valuation}
use Rattle.netlist_spec.specs.SourceRun.{Bits}
use Rattle.netlist_spec.specs.Values.{Forced, Values}
use Rattle.netlist_spec.specs.Gates.{ForcedNets, GateValues, latch_nets}
use Rattle.guard_spec.specs.Codes.{Code, IsCodeword, IsFar}
use Rattle.guard_spec.specs.Words.{Words, Layout, output_word}
use Rattle.netlist_spec.specs.CellBits.{Bit, output_bit, IsBitOf, IsCell, cells_of}
use Rattle.guard_spec.specs.Regions.{Guarded, IsUntouched}

-- What holds of some state word as the latches show it. The first word begins behind `at` places.
abbrev pub SomeStateWord : Code → (List ℕ → Bits → Type 0) → Words → Bits → ℕ → Type 0
SomeStateWord code P [] bits at = ⊥
SomeStateWord code P (w ∷ ws) bits at =
    P w (slice_range bits at (at + length w + code.columns)) ⊎ SomeStateWord code P ws bits (at + length w + code.columns)

abbrev pub SomeOutputWord : (ℕ × List ℕ → Type 0) → List (ℕ × List ℕ) → Type 0
SomeOutputWord P [] = ⊥
SomeOutputWord P (w ∷ ws) = P w ⊎ SomeOutputWord P ws

-- In a cycle some state word, as the latches show it, or some output word is bad.
abbrev pub SomeWord : Code → Layout → ℕ → (List ℕ → Bits → Type 0) → Bits → Bits → Type 0
SomeWord code l p Bad shown z =
    SomeStateWord code Bad l.state shown 0
    ⊎ SomeOutputWord (λ (w : ℕ × List ℕ). Bad w.1 (output_word code p z w)) (enumerate_from 0 l.output)

-- what a bad word may be: no codeword, or more than t places apart from every codeword of its length
abbrev pub IsNoCodeword : Code → List ℕ → Bits → Type 0
IsNoCodeword code w z = IsCodeword code (length w) z → ⊥

abbrev pub IsFarWord : Code → ℕ → List ℕ → Bits → Type 0
IsFarWord code t w z = IsFar code t (length w) z

-- ---- on gate lists

-- A rail of which no cell is faulty in the cycle is 1 exactly where the values are bad, whatever is stored.
abbrev pub RailsTellOf : Guarded → ((ℕ → Bool) → Type 0) → Type 0
RailsTellOf g Bad =
    (x stored : Bits) (faults : ForcedNets) (v : ℕ → Bool) → GateValues g.machine stored x faults v
    → (i : ℕ) (o : ℕ) → slice_get g.machine.outputs i ≡ Some o → length g.machine.outputs ≤ i + g.rails → IsUntouched g faults (output_bit i)
    → IsTrue (v o) ↔ Bad v

abbrev pub SomeNoCodeword : Guarded → Code → Layout → ℕ → (ℕ → Bool) → Type 0
SomeNoCodeword g code l p v = SomeWord code l p (IsNoCodeword code) (map v (latch_nets g.machine)) (map v g.machine.outputs)

abbrev pub SomeFarWord : Guarded → Code → Layout → ℕ → ℕ → (ℕ → Bool) → Type 0
SomeFarWord g code l p t v = SomeWord code l p (IsFarWord code t) (map v (latch_nets g.machine)) (map v g.machine.outputs)

-- The rails tell where some word is no codeword.
abbrev pub RailsTell : Guarded → Code → Layout → ℕ → Type 0
RailsTell g code l p = RailsTellOf g (SomeNoCodeword g code l p)

-- The rails tell where some word is more than t places apart from every codeword.
abbrev pub FarRailsTell : Guarded → Code → Layout → ℕ → ℕ → Type 0
FarRailsTell g code l p t = RailsTellOf g (SomeFarWord g code l p t)

-- ---- on the text

-- No cell of the bit is faulty in the cycle.
abbrev pub IsUntouchedIn : Model → Forced → Bit → Type 0
IsUntouchedIn g faults bit =
    AllByRecursion (λ (e : Name × Bool). (s : Statement) → Contains (cells_of g) s → IsCell s e.0 → IsBitOf g s bit → ⊥) faults

-- The same of a guard's main model, of which the last outputs are the rails.
abbrev pub RailsTellIn : Model → Code → Layout → (p rails : ℕ) → (List ℕ → Bits → Type 0) → Type 0
RailsTellIn g code l p rails Bad =
    (x stored : Bits) (faults : Forced) (v : Valuation) → Values g stored x faults v
    → (i : ℕ) (o : Name) → slice_get (output_nets g) i ≡ Some o → length (output_nets g) ≤ i + rails → IsUntouchedIn g faults (output_bit i)
    → IsTrue (v o) ↔ SomeWord code l p Bad (map v (latch_outputs g)) (map v (output_nets g))
