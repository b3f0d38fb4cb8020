use Rattle.std.proofs.Common.{◌∙◌, arith}
use Rattle.fault_sim.proofs.FaultLemmas.{none_forced}
use Rattle.fault_sim.proofs.faults.clear.Goals as goal

pub returns : goal.returns
returns c = λ all d e. none_forced all c.loop-slot.table d (c.loop-slot.auto.table ∙ e) (λ k h. c.loop-slot.invariant k (omega arith))
