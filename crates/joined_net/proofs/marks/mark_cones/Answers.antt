use Rattle.std.proofs.Common.{◌≡◌, ◌-◌, ap, subst, arith, length, slice_get, Some}
use Rattle.netlist_spec.specs.Gates.{IsMachine, Machine}
use Rattle.gate_net.specs.Gate.{gate_form}
use Rattle.gate_net.specs.GateNet.{net_count}
use Rattle.joined_net.proofs.NetMarks.{no_reads, read_all, read_none, reads_within}
use Rattle.joined_net.proofs.marks.mark_cones.Goals as goal

pub loop-n-init : goal.loop-n-init
loop-n-init c =
    let net : net_count c.m.inside.net ≡ net_count c.args.m.now.net = ap (λ (n : Machine). net_count n.net) c.m.view_is in
    no_reads c.args.m.now c.len-n.result c.args.marks.now (omega (arith, net, c.len-n.ensures.count))

pub mark_reads-requires : goal.mark_reads-requires
mark_reads-requires c =
    let net : net_count c.m.inside.net ≡ net_count c.args.m.now.net = ap (λ (n : Machine). net_count n.net) c.m.view_is in
    reads_within c.m.inside.net c.loop-n.n (length c.loop-n.marks) (gate_form c.gate.result) c.m.invariant.gates (omega (arith, c.loop-n-test.true, c.leaves-n-start.ensures)) (omega (arith, net, c.requires, c.len-n.ensures.count)) c.gate.ensures

pub loop-n-preserved-then-marks-n : goal.loop-n-preserved-then-marks-n
loop-n-preserved-then-marks-n c =
    let leaves : c.m.inside.net.leaves ≡ c.args.m.now.net.leaves = ap (λ (n : Machine). n.net.leaves) c.m.view_is in
    let is_gate : slice_get c.args.m.now.net.gates (c.loop-n.n - 1 - c.args.m.now.net.leaves) ≡ Some (gate_form c.gate.result)
    = subst (λ (n : Machine). slice_get n.net.gates (c.loop-n.n - 1 - n.net.leaves) ≡ Some (gate_form c.gate.result)) c.m.view_is c.gate.ensures in
    let machine : IsMachine c.args.m.now = subst IsMachine c.m.view_is c.m.invariant in
    read_all c.args.m.now c.loop-n.n c.args.marks.now c.loop-n.marks (omega (arith, leaves, c.loop-n-test.true, c.leaves-n-start.ensures)) c.loop-n.invariant (gate_form c.gate.result) c.mark_reads.new.marks machine.gates is_gate c.if-marks-n.true c.mark_reads.ensures

pub loop-n-preserved : goal.loop-n-preserved
loop-n-preserved c =
    let leaves : c.m.inside.net.leaves ≡ c.args.m.now.net.leaves = ap (λ (n : Machine). n.net.leaves) c.m.view_is in
    read_none c.args.m.now c.loop-n.n c.args.marks.now c.loop-n.marks (omega (arith, leaves, c.loop-n-test.true, c.leaves-n-start.ensures)) c.loop-n.invariant c.if-marks-n.false

pub returns : goal.returns
returns c =
    let leaves : c.m.inside.net.leaves ≡ c.args.m.now.net.leaves = ap (λ (n : Machine). n.net.leaves) c.m.view_is in
    let g = c.loop-n.invariant in
    record { count = g.count; kept = g.kept; closed = λ n k low is r. g.closed n k (let e = c.loop-n-test.false in let f = c.leaves-n-start.ensures in omega arith) is r; alone = g.alone }
