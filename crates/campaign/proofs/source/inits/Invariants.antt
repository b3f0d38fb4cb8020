-- The inits of the latches so far.
use Rattle.std.proofs.Common.{◌≡◌, map, take}
use Rattle.gate_net.specs.declared.machine.LatchRow.{LatchRow}
use Rattle.campaign.proofs.source.inits.Given as goal

abbrev pub invariant-loop-latch : goal.invariant-loop-latch
invariant-loop-latch l = l.bits.items ≡ map (λ (r : LatchRow). r.init) (take l.latch-index l.latch-items)
