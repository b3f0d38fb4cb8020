use Rattle.std.proofs.Common.{◌∙◌, ap, Vec, Global, arith}
use Rattle.gate_net.specs.declared.gate.NetId.{NetId}
use Rattle.named_netlist.specs.declared.label.Label.{Label}
use Rattle.named_netlist.specs.declared.label.Label.TheVariants.{Inner}
use Rattle.guard_names.proofs.Pushed.{gate_pushed, leaf_passed, number_pushed, number_passed}
use Rattle.guard_names.proofs.own.push_gates.Goals as goal
use Rattle.guard_names.proofs.own.push_gates.Goals.{then-leaves-n+in_ok-push+in_ok-push-2, else-leaves-n}

pub loop-i-preserved : goal.loop-i-preserved
loop-i-preserved c =
    let i = c.loop-i.i in
    let ns = c.args.outputs.now in
    let xs = c.args.shown.now in
    let same = c.requires in
    let inside = c.loop-i-test.true in
    elim c.if-leaves-n.branch [
      | then-leaves-n+in_ok-push+in_ok-push-2 w ↦
          record {
            nets = number_pushed c.args.leaves i ns _ c.loop-i.nets.items c.if-leaves-n.nets.items inside c.loop-i.invariant.nets w.if-leaves-n.true (ap (λ (v : Vec NetId Global). v.items) w.nets-is ∙ w.in_ok-push.ensures.items);
            labels = gate_pushed c.args.leaves i xs _ ns _ c.loop-i.labels.items c.if-leaves-n.labels.items (omega arith) inside c.loop-i.invariant.labels w.if-leaves-n.true (ap (λ (v : Vec Label Global). v.items) w.labels-is ∙ w.in_ok-push-2.ensures.items);
          }
      | else-leaves-n w ↦
          record {
            nets = number_passed c.args.leaves i ns _ c.loop-i.nets.items c.if-leaves-n.nets.items inside c.loop-i.invariant.nets w.if-leaves-n.false (ap (λ (v : Vec NetId Global). v.items) w.nets-is);
            labels = leaf_passed c.args.leaves i xs (Inner 0) ns _ c.loop-i.labels.items c.if-leaves-n.labels.items (omega arith) inside c.loop-i.invariant.labels w.if-leaves-n.false (ap (λ (v : Vec Label Global). v.items) w.labels-is);
          }
    ]
