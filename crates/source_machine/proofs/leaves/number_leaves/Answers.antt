use Rattle.std.proofs.Common.{◌≡◌, ◌∙◌, sym, ap, subst, List, length, filter_map, All, arith}
use Rattle.imp_text.specs.declared.names.NameId.{NameId}
use Rattle.blif_read.specs.Ids.{IsIdOf}
use Rattle.lowering.specs.Numbers.{IsWithin}
use Rattle.source_machine.specs.Rows.{shown_id}
use Rattle.source_machine.proofs.RowLemmas.{shown_ids}
use Rattle.source_machine.proofs.LeafLemmas.{data_count, shown_count, leaves_made, within_table}
use Rattle.source_machine.proofs.leaves.number_leaves.Goals as goal

pub overflow_cast-leaves-2 : goal.overflow_cast-leaves-2
overflow_cast-leaves-2 c =
    let m = c.args.m.now in
    let shown_by : c.in_ok-latches.latches.items ≡ filter_map shown_id m.statements.items = c.in_ok-latches.ensures ∙ ap (filter_map shown_id) c.deref.ensures.value in
    let shown_within : All (IsIdOf m.names) c.in_ok-latches.latches.items
    = subst (λ (l : List NameId). All (IsIdOf m.names) l) (sym shown_by) (shown_ids m.names m.statements.items c.requires.ids.statements) in
    let a = shown_count m c.requires.can c.in_ok-data.data.items c.in_ok-latches.latches.items c.in_ok-data.ensures.names c.in_ok-data.ensures.within shown_by shown_within in
    let b = c.requires.can.latches in
    let d = c.len-2.ensures in
    omega arith

pub number_nets-requires-2-clause-within : goal.number_nets-requires-2-clause-within
number_nets-requires-2-clause-within c =
    let m = c.args.m.now in
    let shown_by : c.in_ok-latches.latches.items ≡ filter_map shown_id m.statements.items = c.in_ok-latches.ensures ∙ ap (filter_map shown_id) c.deref.ensures.value in
    let shown_within : All (IsIdOf m.names) c.in_ok-latches.latches.items
    = subst (λ (l : List NameId). All (IsIdOf m.names) l) (sym shown_by) (shown_ids m.names m.statements.items c.requires.ids.statements) in
    subst (λ (l : List NameId). All (IsWithin c.number_nets.new.table) l) (sym c.deref-3.ensures.value)
    (within_table m.names c.number_nets.new.table c.in_ok-latches.latches.items (c.number_nets.auto.table ∙ c.requires.table) shown_within)

pub number_nets-requires-2-clause-room : goal.number_nets-requires-2-clause-room
number_nets-requires-2-clause-room c =
    let m = c.args.m.now in
    let shown_by : c.in_ok-latches.latches.items ≡ filter_map shown_id m.statements.items = c.in_ok-latches.ensures ∙ ap (filter_map shown_id) c.deref.ensures.value in
    let shown_within : All (IsIdOf m.names) c.in_ok-latches.latches.items
    = subst (λ (l : List NameId). All (IsIdOf m.names) l) (sym shown_by) (shown_ids m.names m.statements.items c.requires.ids.statements) in
    let a = shown_count m c.requires.can c.in_ok-data.data.items c.in_ok-latches.latches.items c.in_ok-data.ensures.names c.in_ok-data.ensures.within shown_by shown_within in
    let b = c.requires.can.latches in
    let d = data_count m c.requires.can c.in_ok-data.data.items c.in_ok-latches.latches.items c.in_ok-data.ensures.names c.in_ok-data.ensures.within shown_by shown_within in
    let e = c.requires.can.inputs in
    let f = c.len.ensures in
    let g = ap length c.deref-3.ensures.value in
    omega arith

pub returns : goal.returns
returns c =
    let m = c.args.m.now in
    let shown_by : c.in_ok-latches.latches.items ≡ filter_map shown_id m.statements.items = c.in_ok-latches.ensures ∙ ap (filter_map shown_id) c.deref.ensures.value in
    let shown_within : All (IsIdOf m.names) c.in_ok-latches.latches.items
    = subst (λ (l : List NameId). All (IsIdOf m.names) l) (sym shown_by) (shown_ids m.names m.statements.items c.requires.ids.statements) in
    leaves_made m c.requires.can c.in_ok-data.data.items c.in_ok-latches.latches.items c.in_ok-data.ensures.names c.in_ok-data.ensures.within shown_by shown_within
    c.args.table.now c.number_nets.new.table c.number_nets-2.new.table c.len.result c.len-2.result c.deref-2.result.now c.deref-3.result.now c.requires.table
    c.deref-2.ensures.value c.deref-3.ensures.value (omega (arith, c.len.ensures, c.in_ok-data.data.ok.0)) (omega (arith, c.len-2.ensures, c.in_ok-latches.latches.ok.0)) c.number_nets.ensures c.number_nets-2.ensures
