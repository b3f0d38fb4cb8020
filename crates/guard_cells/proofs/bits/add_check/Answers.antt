use Rattle.std.proofs.Common.{◌∙◌, sym, ap, subst, [], ◌∷◌, map}
use Rattle.std.proofs.lemmas.List.{map-append}
use Rattle.netlist_spec.specs.Gates.{GateList, Machine}
use Rattle.gate_net.specs.Gate.{net_number}
use Rattle.cone_split.specs.Cones.{HasRoom}
use Rattle.cone_split.specs.Ranges.{IsCopy}
use Rattle.predictor.specs.Columns.{IsCheckBit, column_roots}
use Rattle.guard_cells.proofs.Checks.{check_cell, check_few, check_room}
use Rattle.guard_cells.proofs.bits.add_check.Goals as goal

pub check_bit-requires-clause-room : goal.check_bit-requires-clause-room
check_bit-requires-clause-room c =
    let roots = map net_number c.args.roots.now in
    let (cost, gives, room) = c.requires.room in
    subst (λ (net : GateList). HasRoom net (column_roots c.args.code.now c.args.j roots) c.args.s.now.net) (sym (ap (λ (m : Machine). m.net) c.m.view_is))
    (check_room c.check_bits_cost_no_more.ensures c.args.m.now c.args.code.now roots c.args.j c.args.s.now.net cost c.requires.roots gives room)

pub returns-clause-cell : goal.returns-clause-cell
returns-clause-cell c =
    let n = c.in_ok-cell.cell.0 in
    let leaf = map net_number c.args.leaf.now in
    let roots = map net_number c.args.roots.now in
    let same = ap (λ (m : Machine). m.net) c.m.view_is in
    let copy = subst (λ (net : GateList). IsCopy net (column_roots c.args.code.now c.args.j roots) leaf c.args.s.now.net c.check_bit.new.dst n) same c.in_ok-cell.ensures.copy in
    let check = subst (λ (net : GateList). IsCheckBit net roots leaf c.args.code.now c.args.j c.args.s.now.net c.check_bit.new.dst n) same c.in_ok-cell.ensures.check in (
      n,
      ap (map net_number) c.in_ok-push.ensures.items ∙ map-append net_number c.args.s.now.cells.items (c.in_ok-cell.cell ∷ []),
      check_cell c.copies_are_ranges.ensures.check c.args.m.now leaf c.args.code.now roots c.args.j c.args.s.now.net c.check_bit.new.dst n copy check,
    )

pub returns-clause-few : goal.returns-clause-few
returns-clause-few c = λ cost gives.
    let n = c.in_ok-cell.cell.0 in
    let leaf = map net_number c.args.leaf.now in
    let roots = map net_number c.args.roots.now in
    let copy = subst (λ (net : GateList). IsCopy net (column_roots c.args.code.now c.args.j roots) leaf c.args.s.now.net c.check_bit.new.dst n) (ap (λ (m : Machine). m.net) c.m.view_is) c.in_ok-cell.ensures.copy in
    check_few c.check_bits_cost_no_more.ensures c.args.m.now leaf c.args.code.now roots c.args.j c.args.s.now.net c.check_bit.new.dst n cost c.requires.roots copy gives
