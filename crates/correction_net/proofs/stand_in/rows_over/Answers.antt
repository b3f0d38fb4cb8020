use Rattle.std.proofs.Common.{◌≡◌, refl, sym, ◌∙◌, ap, subst, map, false}
use Rattle.netlist_spec.specs.Gates.{IsMachine, Machine}
use Rattle.gate_net.specs.declared.gate.NetId.{NetId}
use Rattle.gate_net.specs.declared.machine.LatchRow.{LatchRow}
use Rattle.gate_net.specs.Gate.{net_number}
use Rattle.gate_net.specs.GateNet.{net_count}
use Rattle.gate_net.specs.Machine.{latch_row}
use Rattle.correction_laws.specs.FromJoined.{IsOver}
use Rattle.correction_net.proofs.StandIn.{no_rows, row_pushed, store_below}
use Rattle.correction_net.proofs.stand_in.rows_over.Goals as goal

pub loop-row-init : goal.loop-row-init
loop-row-init c = no_rows (IsOver c.args.m.now (map net_number c.args.j.now.nets.items) c.args.j.now.first) c.new-rows.result.items c.new-rows.ensures.items

pub over-d-requires-clause-net : goal.over-d-requires-clause-net
over-d-requires-clause-net c =
    let m = c.args.m.now in
    let items = c.deref-row-items.result.now in
    let are : m.latches ≡ map latch_row items = ap (λ (n : Machine). n.latches) (sym c.m.view_is) ∙ ap (map latch_row) (sym c.deref-row-items.ensures.value) in
    let is : IsMachine m = subst IsMachine c.m.view_is c.m.invariant in
    store_below (net_count m.net) m.latches items c.loop-row.row-index (record { d = record { 0 = 0 }; init = false }) is.stores are c.loop-row-test.true

pub loop-row-preserved : goal.loop-row-preserved
loop-row-preserved c =
    let m = c.args.m.now in
    let j = c.args.j.now in
    let none : LatchRow = record { d = record { 0 = 0 }; init = false } in
    let items = c.deref-row-items.result.now in
    let are : m.latches ≡ map latch_row items = ap (λ (n : Machine). n.latches) (sym c.m.view_is) ∙ ap (map latch_row) (sym c.deref-row-items.ensures.value) in
    row_pushed (IsOver m (map net_number j.nets.items) j.first) m.latches items c.loop-row.rows.items c.push.new.self.items c.loop-row.row-index none c.over-d.result _ are c.loop-row-test.true c.in_ok-push.ensures.items refl c.loop-row.invariant c.over-d.ensures
