use Rattle.std.proofs.Common.{◌∙◌, ap, get_or, arith}
use Rattle.std.proofs.lemmas.List.{map_more, take_all}
use Rattle.gate_net.specs.Gate.{net_number}
use Rattle.cone_split.proofs.Cells.{gains_none, gains_gate_at, gains_leaf_at}
use Rattle.cone_split.proofs.cone.add_gates.Goals as goal
use Rattle.cone_split.proofs.cone.add_gates.Goals.{then-n-leaves+in_ok-insert, else-n-leaves}

pub loop-n-init : goal.loop-n-init
loop-n-init c = gains_none c.args.leaves c.args.pending.now.keys

pub loop-n-preserved : goal.loop-n-preserved
loop-n-preserved c =
    let nets = c.args.nets.now in
    let n = get_or nets c.loop-n.n-index (record { 0 = 0 }) in
    let more = map_more net_number nets c.loop-n.n-index (record { 0 = 0 }) c.loop-n-test.true in
    elim c.if-n-leaves.branch [
      | then-n-leaves+in_ok-insert w ↦ gains_gate_at c.args.leaves c.args.pending.now.keys c.loop-n.pending.keys c.if-n-leaves.pending.keys _ _ n.0 (ap (λ s. s.keys) w.pending-is ∙ w.in_ok-insert.ensures.keys) more (let h = w.if-n-leaves.true in omega arith) c.loop-n.invariant
      | else-n-leaves w ↦ gains_leaf_at c.args.leaves c.args.pending.now.keys c.loop-n.pending.keys c.if-n-leaves.pending.keys _ _ n.0 (ap (λ s. s.keys) w.pending-is) more (let h = w.if-n-leaves.false in omega arith) c.loop-n.invariant
    ]

pub returns : goal.returns
returns c = rw (← take_all c.loop-n.n-index c.args.nets.now c.loop-n-test.false) c.loop-n.invariant
