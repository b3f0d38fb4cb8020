use Rattle.std.proofs.Common.{◌∙◌, sym, ap, subst, [], ◌∷◌, map}
use Rattle.std.proofs.lemmas.List.{map-append}
use Rattle.netlist_spec.specs.Gates.{GateList, Machine}
use Rattle.gate_net.specs.Gate.{net_number}
use Rattle.cone_split.specs.Cones.{HasRoom}
use Rattle.cone_split.specs.Ranges.{IsCopy}
use Rattle.guard_cells.proofs.Copies.{copy_cell, copy_few, copy_room}
use Rattle.guard_cells.proofs.bits.add_copy.Goals as goal

pub copy_xor-requires-clause-room : goal.copy_xor-requires-clause-room
copy_xor-requires-clause-room c =
    let (cost, is_cost, room) = c.requires.room in
    subst (λ (net : GateList). HasRoom net (c.args.root.0 ∷ []) c.args.s.now.net) (sym (ap (λ (m : Machine). m.net) c.m.view_is))
    (copy_room c.cones_have_one_size.ensures.costs c.args.m.now c.args.s.now.net c.args.root.0 cost is_cost room)

pub returns-clause-cell : goal.returns-clause-cell
returns-clause-cell c =
    let n = c.in_ok-cell.cell.0 in
    let leaf = map net_number c.args.leaf.now in
    let copy = subst (λ (net : GateList). IsCopy net (c.args.root.0 ∷ []) leaf c.args.s.now.net c.copy_xor.new.dst n) (ap (λ (m : Machine). m.net) c.m.view_is) c.in_ok-cell.ensures.copy in (
      n,
      ap (map net_number) c.in_ok-push.ensures.items ∙ map-append net_number c.args.s.now.cells.items (c.in_ok-cell.cell ∷ []),
      copy_cell c.copies_are_ranges.ensures.copy c.args.m.now leaf c.args.s.now.net c.copy_xor.new.dst c.args.root.0 n copy,
    )

pub returns-clause-few : goal.returns-clause-few
returns-clause-few c = λ cost is_cost.
    let n = c.in_ok-cell.cell.0 in
    let leaf = map net_number c.args.leaf.now in
    let copy = subst (λ (net : GateList). IsCopy net (c.args.root.0 ∷ []) leaf c.args.s.now.net c.copy_xor.new.dst n) (ap (λ (m : Machine). m.net) c.m.view_is) c.in_ok-cell.ensures.copy in
    copy_few c.cones_have_one_size.ensures.costs c.args.m.now leaf c.args.s.now.net c.copy_xor.new.dst c.args.root.0 n cost copy is_cost
