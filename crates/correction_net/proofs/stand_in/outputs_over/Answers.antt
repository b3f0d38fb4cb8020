use Rattle.std.proofs.Common.{◌≡◌, sym, ◌∙◌, ap, subst, map}
use Rattle.netlist_spec.specs.Gates.{IsMachine, Machine}
use Rattle.gate_net.specs.declared.gate.NetId.{NetId}
use Rattle.gate_net.specs.Gate.{net_number}
use Rattle.gate_net.specs.GateNet.{net_count}
use Rattle.guard_net.proofs.ShownOutputs.{output_below}
use Rattle.correction_laws.specs.FromJoined.{IsOver}
use Rattle.correction_net.proofs.StandIn.{net_pushed}
use Rattle.correction_net.proofs.stand_in.outputs_over.Goals as goal

pub over-requires-clause-net : goal.over-requires-clause-net
over-requires-clause-net c =
    let m = c.args.m.now in
    let items = c.deref-o-items.result.now in
    let are : m.outputs ≡ map net_number items = ap (λ (n : Machine). n.outputs) (sym c.m.view_is) ∙ ap (map net_number) (sym c.deref-o-items.ensures.value) in
    let is : IsMachine m = subst IsMachine c.m.view_is c.m.invariant in
    output_below (net_count m.net) m.outputs items c.loop-o.o-index (record { 0 = 0 }) is.outputs are c.loop-o-test.true

pub loop-o-preserved : goal.loop-o-preserved
loop-o-preserved c =
    let m = c.args.m.now in
    let j = c.args.j.now in
    let none : NetId = record { 0 = 0 } in
    let items = c.deref-o-items.result.now in
    let are : m.outputs ≡ map net_number items = ap (λ (n : Machine). n.outputs) (sym c.m.view_is) ∙ ap (map net_number) (sym c.deref-o-items.ensures.value) in
    net_pushed (IsOver m (map net_number j.nets.items) j.first) m.outputs items c.loop-o.nets.items c.push.new.self.items c.loop-o.o-index none c.over.result are c.loop-o-test.true c.in_ok-push.ensures.items c.loop-o.invariant c.over.ensures
