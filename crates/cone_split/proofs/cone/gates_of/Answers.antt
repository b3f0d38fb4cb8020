use Rattle.std.proofs.Common.{sym, ap, subst, ℕ, ◌<◌, List, map, get_or, reverse, arith}
use Rattle.gate_net.specs.Gate.{gate_form, net_number}
use Rattle.gate_net.specs.GateNet.{net_count}
use Rattle.cone_split.proofs.Marks.{marked_at_first, marked_at_more, marked_at_all, greatest_there, none_left, reverse_more}
use Rattle.cone_split.proofs.cone.gates_of.Goals as goal

pub loop-n-init : goal.loop-n-init
loop-n-init c =
    marked_at_first c.args.src.now (map net_number c.args.roots.now) _ c.new-pending.result.keys c.add_gates.new.pending.keys c.leaves-leaves.result c.leaves-leaves.ensures c.new-pending.ensures.empty (ap reverse c.new-cells.ensures.items) c.requires c.in_ok-add_gates.ensures

pub prove-unreachable-requires : goal.prove-unreachable-requires
prove-unreachable-requires c =
    let low = c.loop-n.invariant.lower c.in-Some.n (greatest_there c.loop-n.pending.keys c.pop_last.new.self.keys c.in-Some.n c.in-Some.ensures.removal) in
    let h = low.1 in
    let e = c.len-nets.ensures.count in
    let t = c.if-prove.true in
    omega arith

pub gate-requires-clause-gate : goal.gate-requires-clause-gate
gate-requires-clause-gate c = (c.loop-n.invariant.lower c.in-Some.n (greatest_there c.loop-n.pending.keys c.pop_last.new.self.keys c.in-Some.n c.in-Some.ensures.removal)).0

pub loop-n-smaller : goal.loop-n-smaller
loop-n-smaller c =
    let low = c.loop-n.invariant.lower c.in-Some.n (greatest_there c.loop-n.pending.keys c.pop_last.new.self.keys c.in-Some.n c.in-Some.ensures.removal) in
    subst (λ (ks : List ℕ). get_or ks 0 (net_count c.args.src.now) < get_or (reverse c.loop-n.cells.items) 0 (net_count c.args.src.now)) (sym (reverse_more c.loop-n.cells.items c.push.new.self.items c.in-Some.n c.in_ok-push.ensures.items)) low.2

pub loop-n-preserved : goal.loop-n-preserved
loop-n-preserved c =
    marked_at_more c.args.src.now (map net_number c.args.roots.now) c.loop-n.cells.items c.push.new.self.items c.loop-n.pending.keys c.pop_last.new.self.keys c.add_reads.new.pending.keys c.in-Some.n c.leaves-leaves.result (gate_form c.gate.result)
    c.len-nets.ensures.well_formed.gates c.leaves-leaves.ensures c.loop-n.invariant c.in_ok-push.ensures.items c.in-Some.ensures.removal c.in-Some.ensures.all_below c.gate.ensures c.in_ok-add_reads.ensures

pub returns-clause-cells : goal.returns-clause-cells
returns-clause-cells c =
    marked_at_all c.args.src.now (map net_number c.args.roots.now) c.loop-n.cells.items c.reverse.new.self.items c.loop-n.pending.keys (none_left c.loop-n.pending.keys c.in_default.ensures.variant.1) c.reverse.ensures.items c.loop-n.invariant
