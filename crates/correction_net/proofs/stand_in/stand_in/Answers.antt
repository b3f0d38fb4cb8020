use Rattle.std.proofs.Common.{◌≡◌, sym, ap, subst, ◌+◌, ◌-◌, ◌≤◌, ◌^◌, ◌<◌, length, map, arith, Fits, w32}
use Rattle.netlist_spec.specs.Gates.{IsMachine, Machine}
use Rattle.gate_net.specs.Gate.{net_number}
use Rattle.guard_spec.specs.Codes.{data_places}
use Rattle.correction_laws.specs.FromJoined.{IsOver}
use Rattle.correction_net.specs.StandIn.{StandsIn}
use Rattle.correction_net.proofs.StandIn.{latches_fit, stands_in}
use Rattle.correction_net.proofs.stand_in.stand_in.Goals as goal

pub overflow_cast-inputs : goal.overflow_cast-inputs
overflow_cast-inputs c =
    let j = c.in_ok-joined.joined in
    let m = c.args.m.now in
    let fit = latches_fit m c.args.c.now c.args.l.now c.args.t (data_places c.args.c.now) j.net (map net_number j.nets.items) j.first (IsOver m (map net_number j.nets.items) j.first) c.in_ok-latches.latches.items c.requires.state c.in_ok-joined.ensures c.in_ok-latches.ensures.stores in
    let small = c.len-nets.ensures.well_formed.small in
    let filled = c.in_ok-latches.latches.ok.0 in
    omega (arith, fit, small, filled, c.len.ensures)

pub overflow_sub-inputs : goal.overflow_sub-inputs
overflow_sub-inputs c =
    let j = c.in_ok-joined.joined in
    let m = c.args.m.now in
    let fit = latches_fit m c.args.c.now c.args.l.now c.args.t (data_places c.args.c.now) j.net (map net_number j.nets.items) j.first (IsOver m (map net_number j.nets.items) j.first) c.in_ok-latches.latches.items c.requires.state c.in_ok-joined.ensures c.in_ok-latches.ensures.stores in
    let filled = c.in_ok-latches.latches.ok.0 in
    omega (arith, fit, filled, c.len.ensures, c.leaves.ensures)

pub invariant_of-result : goal.invariant_of-result
invariant_of-result c =
    let j = c.in_ok-joined.joined in
    let m = c.args.m.now in
    let fit = latches_fit m c.args.c.now c.args.l.now c.args.t (data_places c.args.c.now) j.net (map net_number j.nets.items) j.first (IsOver m (map net_number j.nets.items) j.first) c.in_ok-latches.latches.items c.requires.state c.in_ok-joined.ensures c.in_ok-latches.ensures.stores in
    let filled = c.in_ok-latches.latches.ok.0 in
    let stands = stands_in m c.args.c.now c.args.l.now c.args.t (data_places c.args.c.now) j.net (map net_number j.nets.items) j.first (c.leaves.result - c.len.result) c.in_ok-latches.latches.items c.in_ok-outputs.outputs.items
    (subst IsMachine c.m.view_is c.m.invariant) c.requires.state c.in_ok-joined.ensures (omega (arith, fit, filled, c.len.ensures, c.leaves.ensures)) c.in_ok-latches.ensures.stores c.in_ok-latches.ensures.inits c.in_ok-outputs.ensures in
    stands.is_machine

pub returns : goal.returns
returns c =
    let j = c.in_ok-joined.joined in
    let m = c.args.m.now in
    let fit = latches_fit m c.args.c.now c.args.l.now c.args.t (data_places c.args.c.now) j.net (map net_number j.nets.items) j.first (IsOver m (map net_number j.nets.items) j.first) c.in_ok-latches.latches.items c.requires.state c.in_ok-joined.ensures c.in_ok-latches.ensures.stores in
    let filled = c.in_ok-latches.latches.ok.0 in
    stands_in m c.args.c.now c.args.l.now c.args.t (data_places c.args.c.now) j.net (map net_number j.nets.items) j.first (c.leaves.result - c.len.result) c.in_ok-latches.latches.items c.in_ok-outputs.outputs.items
    (subst IsMachine c.m.view_is c.m.invariant) c.requires.state c.in_ok-joined.ensures (omega (arith, fit, filled, c.len.ensures, c.leaves.ensures)) c.in_ok-latches.ensures.stores c.in_ok-latches.ensures.inits c.in_ok-outputs.ensures
