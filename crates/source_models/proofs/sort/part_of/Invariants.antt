-- The rows so far.
use Rattle.source_models.specs.Cycles.{IsPart}
use Rattle.source_models.proofs.sort.part_of.Given as goal

abbrev pub invariant-loop-node : goal.invariant-loop-node
invariant-loop-node l = IsPart l.graph l.marks l.node l.part
