use Rattle.std.proofs.Common.{◌<◌, length}
use Rattle.gate_net.specs.Machine.{latch_row}
use Rattle.gate_net.proofs.Machines.{each_at}
use Rattle.gate_net.proofs.machine.store.Goals as goal

pub bounds-row-latch : goal.bounds-row-latch
bounds-row-latch c = each_at (λ l. l.d < length c.args.row.now) latch_row c.args.latches.now c.loop-i.i _ c.requires.nets c.loop-i-test.true
