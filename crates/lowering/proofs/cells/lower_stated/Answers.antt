use Rattle.std.proofs.Common.{◌≡◌, sym, subst, true, ◌<◌, List, length, map, get_or, All}
use Rattle.std.specs.List.{AllByRecursion}
use Rattle.netlist_spec.specs.Netlist.{are_distinct}
use Rattle.netlist_spec.specs.Covers.{table_value, linear_value}
use Rattle.netlist_spec.specs.Size.{table_cost, linear_cost}
use Rattle.imp_text.specs.declared.names.NameId.{NameId}
use Rattle.blif_read.specs.declared.file.Bind.{Bind as ReadBind}
use Rattle.blif_read.specs.declared.file.Statement.{Statement as ReadStatement}
use Rattle.blif_read.specs.Ids.{IsIdOf, ids_in}
use Rattle.blif_read.specs.View.{statement_of, cover_of}
use Rattle.gate_net.specs.GateNet.{net_count}
use Rattle.source_nets.specs.Ports.{source_file, source_library}
use Rattle.lowering.specs.Lowers.{CanLower, Lowers}
use Rattle.lowering.specs.Numbers.{IsWithin, NotesCover, nets_for}
use Rattle.lowering.specs.Ports.{NotesPorts, input_nets}
use Rattle.lowering.proofs.GateLemmas.{cover_lowers}
use Rattle.lowering.proofs.CellLemmas.{known_nets, cover_ids, entry_once, entry_within, entry_nets, entry_room, table_entry, table_done, linear_entry, linear_done, then_ok}
use Rattle.lowering.proofs.cells.lower_stated.Goals as goal

pub lower_names-requires-clause-nets : goal.lower_names-requires-clause-nets
lower_names-requires-clause-nets c =
    let all = c.args.m.now.names in
    let can = subst (λ (t : ReadStatement). CanLower (source_file c.args.source.now) (source_library c.args.source.now) all (statement_of all t) c.args.net.now c.args.table.now) c.in-Names.is c.requires.can in
    let ids = cover_ids all c.in-Names.ins.items c.in-Names.out (subst (λ (t : ReadStatement). All (IsIdOf all) (ids_in t)) c.in-Names.is c.requires.ids) in
    let P : List NameId → Type 0 = λ l. AllByRecursion (λ n. n < net_count c.args.net.now) (nets_for c.args.table.now l) in
    subst P (sym c.deref.ensures.value) (known_nets all c.args.table.now (net_count c.args.net.now) c.in-Names.ins.items can.distinct ids.0 can.known)

pub returns-in-Names : goal.returns-in-Names
returns-in-Names c =
    let all = c.args.m.now.names in
    let L : ReadStatement → Type 0 = λ t. Lowers (source_file c.args.source.now) (source_library c.args.source.now) all (statement_of all t) c.args.net.now c.args.table.now c.lower_names.new.net c.lower_names.new.table in
    let N : List NameId → Type 0 = λ l. NotesCover (nets_for c.args.table.now l) (cover_of c.in-Names.cover) c.in-Names.out.0 c.args.net.now c.args.table.now c.lower_names.new.net c.lower_names.new.table in
    let can = subst (λ (t : ReadStatement). CanLower (source_file c.args.source.now) (source_library c.args.source.now) all (statement_of all t) c.args.net.now c.args.table.now) c.in-Names.is c.requires.can in
    let ids = cover_ids all c.in-Names.ins.items c.in-Names.out (subst (λ (t : ReadStatement). All (IsIdOf all) (ids_in t)) c.in-Names.is c.requires.ids) in
    then_ok c.lower_names.result (λ (notes : N c.deref.result.now).
    subst L (sym c.in-Names.is)
    (cover_lowers (source_file c.args.source.now) (source_library c.args.source.now) all c.in-Names.ins.items c.in-Names.out c.in-Names.cover c.args.net.now c.args.table.now c.lower_names.new.net c.lower_names.new.table ids.0 ids.1 can
    (subst N c.deref.ensures.value notes)))
    c.lower_names.ensures

pub lower_table-requires-clause-within : goal.lower_table-requires-clause-within
lower_table-requires-clause-within c =
    let P : List ReadBind → Type 0 = λ l. All (λ (b : ReadBind). IsWithin c.args.table.now b.actual) l in
    subst P (sym c.deref-in-Table.ensures.value) (entry_within (source_file c.args.source.now) (source_library c.args.source.now) c.args.m.now.names c.in-Subckt.model c.in-Subckt.binds.items c.args.net.now c.args.table.now _ _ _ (table_entry c.args.source.now c.args.m.now.names c.args.s.now c.args.meaning c.in-Table.k c.in-Subckt.model c.in-Subckt.binds c.args.net.now c.args.table.now c.in-Subckt.is c.requires.ids c.requires.meaning c.requires.within c.requires.can c.in-Table.is c.index-source-k.result))

pub lower_table-requires-clause-once : goal.lower_table-requires-clause-once
lower_table-requires-clause-once c =
    let P : List ReadBind → Type 0 = λ l. are_distinct (map (λ (b : ReadBind). b.formal) l) ≡ true in
    subst P (sym c.deref-in-Table.ensures.value) (entry_once (source_file c.args.source.now) (source_library c.args.source.now) c.args.m.now.names c.in-Subckt.model c.in-Subckt.binds.items c.args.net.now c.args.table.now _ _ _ (table_entry c.args.source.now c.args.m.now.names c.args.s.now c.args.meaning c.in-Table.k c.in-Subckt.model c.in-Subckt.binds c.args.net.now c.args.table.now c.in-Subckt.is c.requires.ids c.requires.meaning c.requires.within c.requires.can c.in-Table.is c.index-source-k.result))

pub lower_table-requires-clause-nets : goal.lower_table-requires-clause-nets
lower_table-requires-clause-nets c =
    let P : List ReadBind → Type 0 = λ l. AllByRecursion (λ n. n < net_count c.args.net.now) (input_nets c.args.table.now l (get_or c.args.source.now.tables.now c.in-Table.k c.index-source-k.result).table.ins) in
    subst P (sym c.deref-in-Table.ensures.value) (entry_nets (source_file c.args.source.now) (source_library c.args.source.now) c.args.m.now.names c.in-Subckt.model c.in-Subckt.binds.items c.args.net.now c.args.table.now _ _ _ (table_entry c.args.source.now c.args.m.now.names c.args.s.now c.args.meaning c.in-Table.k c.in-Subckt.model c.in-Subckt.binds c.args.net.now c.args.table.now c.in-Subckt.is c.requires.ids c.requires.meaning c.requires.within c.requires.can c.in-Table.is c.index-source-k.result))

pub lower_table-requires-clause-room : goal.lower_table-requires-clause-room
lower_table-requires-clause-room c = entry_room (source_file c.args.source.now) (source_library c.args.source.now) c.args.m.now.names c.in-Subckt.model c.in-Subckt.binds.items c.args.net.now c.args.table.now _ _ _ (table_entry c.args.source.now c.args.m.now.names c.args.s.now c.args.meaning c.in-Table.k c.in-Subckt.model c.in-Subckt.binds c.args.net.now c.args.table.now c.in-Subckt.is c.requires.ids c.requires.meaning c.requires.within c.requires.can c.in-Table.is c.index-source-k.result)

pub returns-in-Table : goal.returns-in-Table
returns-in-Table c =
    let entry = (get_or c.args.source.now.tables.now c.in-Table.k c.index-source-k.result).table in
    let N : List ReadBind → Type 0 = λ l. NotesPorts entry.ins entry.outs (table_value entry) (table_cost entry) l c.args.net.now c.args.table.now c.lower_table.new.net c.lower_table.new.table in
    then_ok c.lower_table.result (λ (notes : N c.deref-in-Table.result.now).
    table_done c.args.source.now c.args.m.now.names c.args.s.now c.args.meaning c.in-Table.k c.in-Subckt.model c.in-Subckt.binds c.args.net.now c.args.table.now c.in-Subckt.is c.requires.ids c.requires.meaning c.requires.within c.requires.can c.in-Table.is c.index-source-k.result c.lower_table.new.net c.lower_table.new.table c.lower_table.ensures.few (subst N c.deref-in-Table.ensures.value notes))
    c.lower_table.ensures.notes

pub lower_linear-requires-clause-within : goal.lower_linear-requires-clause-within
lower_linear-requires-clause-within c =
    let P : List ReadBind → Type 0 = λ l. All (λ (b : ReadBind). IsWithin c.args.table.now b.actual) l in
    subst P (sym c.deref-in-Linear.ensures.value) (entry_within (source_file c.args.source.now) (source_library c.args.source.now) c.args.m.now.names c.in-Subckt.model c.in-Subckt.binds.items c.args.net.now c.args.table.now _ _ _ (linear_entry c.args.source.now c.args.m.now.names c.args.s.now c.args.meaning c.in-Linear.k c.in-Subckt.model c.in-Subckt.binds c.args.net.now c.args.table.now c.in-Subckt.is c.requires.ids c.requires.meaning c.requires.within c.requires.can c.in-Linear.is c.index-source-k-in-Linear.result))

pub lower_linear-requires-clause-once : goal.lower_linear-requires-clause-once
lower_linear-requires-clause-once c =
    let P : List ReadBind → Type 0 = λ l. are_distinct (map (λ (b : ReadBind). b.formal) l) ≡ true in
    subst P (sym c.deref-in-Linear.ensures.value) (entry_once (source_file c.args.source.now) (source_library c.args.source.now) c.args.m.now.names c.in-Subckt.model c.in-Subckt.binds.items c.args.net.now c.args.table.now _ _ _ (linear_entry c.args.source.now c.args.m.now.names c.args.s.now c.args.meaning c.in-Linear.k c.in-Subckt.model c.in-Subckt.binds c.args.net.now c.args.table.now c.in-Subckt.is c.requires.ids c.requires.meaning c.requires.within c.requires.can c.in-Linear.is c.index-source-k-in-Linear.result))

pub lower_linear-requires-clause-nets : goal.lower_linear-requires-clause-nets
lower_linear-requires-clause-nets c =
    let P : List ReadBind → Type 0 = λ l. AllByRecursion (λ n. n < net_count c.args.net.now) (input_nets c.args.table.now l (get_or c.args.source.now.linears.now c.in-Linear.k c.index-source-k-in-Linear.result).layer.width) in
    subst P (sym c.deref-in-Linear.ensures.value) (entry_nets (source_file c.args.source.now) (source_library c.args.source.now) c.args.m.now.names c.in-Subckt.model c.in-Subckt.binds.items c.args.net.now c.args.table.now _ _ _ (linear_entry c.args.source.now c.args.m.now.names c.args.s.now c.args.meaning c.in-Linear.k c.in-Subckt.model c.in-Subckt.binds c.args.net.now c.args.table.now c.in-Subckt.is c.requires.ids c.requires.meaning c.requires.within c.requires.can c.in-Linear.is c.index-source-k-in-Linear.result))

pub lower_linear-requires-clause-room : goal.lower_linear-requires-clause-room
lower_linear-requires-clause-room c = entry_room (source_file c.args.source.now) (source_library c.args.source.now) c.args.m.now.names c.in-Subckt.model c.in-Subckt.binds.items c.args.net.now c.args.table.now _ _ _ (linear_entry c.args.source.now c.args.m.now.names c.args.s.now c.args.meaning c.in-Linear.k c.in-Subckt.model c.in-Subckt.binds c.args.net.now c.args.table.now c.in-Subckt.is c.requires.ids c.requires.meaning c.requires.within c.requires.can c.in-Linear.is c.index-source-k-in-Linear.result)

pub returns-in-Linear : goal.returns-in-Linear
returns-in-Linear c =
    let entry = (get_or c.args.source.now.linears.now c.in-Linear.k c.index-source-k-in-Linear.result).layer in
    let N : List ReadBind → Type 0 = λ l. NotesPorts entry.width (length entry.rows) (linear_value entry) (linear_cost entry) l c.args.net.now c.args.table.now c.lower_linear.new.net c.lower_linear.new.table in
    then_ok c.lower_linear.result (λ (notes : N c.deref-in-Linear.result.now).
    linear_done c.args.source.now c.args.m.now.names c.args.s.now c.args.meaning c.in-Linear.k c.in-Subckt.model c.in-Subckt.binds c.args.net.now c.args.table.now c.in-Subckt.is c.requires.ids c.requires.meaning c.requires.within c.requires.can c.in-Linear.is c.index-source-k-in-Linear.result c.lower_linear.new.net c.lower_linear.new.table c.lower_linear.ensures.few (subst N c.deref-in-Linear.ensures.value notes))
    c.lower_linear.ensures.notes
