use Rattle.std.proofs.Common.{◌<◌, arith}
use Rattle.gate_net.specs.GateNet.{net_count}
use Rattle.reduction.proofs.Inputs.{each_at}
use Rattle.gates_tests.proofs.layers.bits_of.Goals as goal

pub index-requires : goal.index-requires
index-requires c =
    let below = each_at (λ n. n < net_count c.args.net.now) c.args.nets.now c.loop-n.n-index (record { 0 = 0 }) c.requires.nets c.loop-n-test.true in
    let long = c.in_ok-row.ensures.len in
    let count = c.len.ensures.count in
    omega arith
