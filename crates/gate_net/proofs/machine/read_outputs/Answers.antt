use Rattle.std.proofs.Common.{◌<◌, length}
use Rattle.gate_net.specs.Gate.{net_number}
use Rattle.gate_net.proofs.Machines.{each_at}
use Rattle.gate_net.proofs.machine.read_outputs.Goals as goal

pub bounds-row-n : goal.bounds-row-n
bounds-row-n c = each_at (λ n. n < length c.args.row.now) net_number c.args.outputs.now c.loop-i.i _ c.requires.nets c.loop-i-test.true
