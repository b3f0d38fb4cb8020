-- What a guard's gate list keeps, in words of all its runs beside the runs of its source.
use Rattle.std.specs.Prelude.{ℕ, List, [], length}
use Rattle.netlist_spec.specs.SourceRun.{Bits, Stream}
use Rattle.netlist_spec.specs.Gates.{Machine, NetFault, GateRun}
use Rattle.guard_spec.specs.Codes.{Code}
use Rattle.guard_spec.specs.Words.{Layout}
use Rattle.guard_spec.specs.Contained.{IsQuiet, IsDetected, IsCorrected}
use Rattle.containment.specs.Nets.{IsFaultless}
use Rattle.guard_spec.specs.Regions.{Guarded}

-- On every stream the run of the guard without faults gives the source's outputs and no alarm.
abbrev pub IsFaithfulOnGates : Guarded → Machine → Code → Layout → Type 0
IsFaithfulOnGates g source code l =
    (xs : Stream) (states outs stored zs : List Bits)
    → GateRun source xs [] states outs → GateRun g.machine xs [] stored zs
    → IsQuiet code l (length source.outputs) (length xs) states outs stored zs

-- On every stream, under every fault list of a kind, what is said of the cycles holds.
abbrev pub UnderNetFaults : Guarded → Machine → (List NetFault → Type 0) → (List NetFault → ℕ → List Bits → List Bits → List Bits → List Bits → Type 0) → Type 0
UnderNetFaults g source allowed claim =
    (xs : Stream) (faults : List NetFault) (states outs stored zs : List Bits)
    → allowed faults → GateRun source xs [] states outs → GateRun g.machine xs faults stored zs
    → claim faults (length xs) states outs stored zs

-- Containment in detection, for the fault lists that are allowed.
abbrev pub DetectsOnGates : Guarded → Machine → Code → Layout → (List NetFault → Type 0) → Type 0
DetectsOnGates g source code l allowed =
    UnderNetFaults g source allowed (λ faults cycles states outs stored zs. IsDetected code l (length source.outputs) cycles outs zs)

-- Containment in correction.
abbrev pub CorrectsOnGates : Guarded → Machine → Code → Layout → ℕ → (List NetFault → Type 0) → Type 0
CorrectsOnGates g source code l t allowed =
    UnderNetFaults g source allowed (λ faults cycles states outs stored zs. IsCorrected code l (length source.outputs) t (IsFaultless faults) cycles states outs stored zs)
