use Rattle.std.proofs.Common.{List, [], map, String, Global, sym, ◌∙◌, ap}
use Rattle.std.specs.Map.Iter.{deref_pair}
use Rattle.std.proofs.lemmas.List.{map-append}
use Rattle.std.proofs.lemmas.Map.Iter.{rest_more}
use Rattle.std.proofs.lemmas.Result.{err_from_is_err_and}
use Rattle.netlist_spec.specs.Covers.{NamedTable}
use Rattle.guard_spec.specs.SettingsFile.{all_of, sbox_entry}
use Rattle.sbox_table.specs.Named.{named_table_of}
use Rattle.toml.specs.declared.value.Value.{Value}
use Rattle.settings.specs.Faults.{fault_of}
use Rattle.settings.specs.Library.{IsNamedTable}
use Rattle.settings.proofs.EachEntry.{listed, after, after_none, entry_gives, entry_fails, entries_end, ascending_names, all_push}
use Rattle.settings.proofs.EntryShapes.{sbox_name}
use Rattle.settings.proofs.tables.tables.Goals as goal

pub loop-name-init : goal.loop-name-init
loop-name-init c =
    rw c.new-tables.ensures.items (
      after_none (all_of sbox_entry (listed c.args.entries.now.entries)) ∙ ap (λ (es : List (String Global × Value)). after [] (all_of sbox_entry (listed es))) (sym c.into_iter-name-iterator.ensures.into_iter_gives.0),
      tt,
    )

pub loop-name-preserved : goal.loop-name-preserved
loop-name-preserved c =
    let (so_far, valid) = c.loop-name.invariant in
    let next = rest_more (deref_pair {K = String Global} {X = Value}) c.loop-name.name-iterator c.next.new.self c.next.result (c.in-Some.name, c.in-Some.value) c.in-Some.is c.next.ensures.steps in
    rw (c.in_ok-push.ensures.items, map-append) (
      entry_gives sbox_entry c.args.entries.now.entries c.loop-name.name-iterator (map named_table_of c.loop-name.tables.items) so_far
          c.in-Some.name.now c.in-Some.value.now c.next.new.self next c.as_str.result.now c.as_str.ensures.value (named_table_of c.in_ok-table.table) c.in_ok-table.ensures.ok,
      all_push IsNamedTable (map named_table_of c.loop-name.tables.items) (named_table_of c.in_ok-table.table) valid c.in_ok-table.ensures.valid,
    )

pub returns-in_err-table-clause-err : goal.returns-in_err-table-clause-err
returns-in_err-table-clause-err c =
    let (so_far, valid) = c.loop-name.invariant in
    let next = rest_more (deref_pair {K = String Global} {X = Value}) c.loop-name.name-iterator c.next.new.self c.next.result (c.in-Some.name, c.in-Some.value) c.in-Some.is c.next.ensures.steps in
    let p = err_from_is_err_and c.from_residual.result c.from_residual.ensures.1 in
    rw (p.1, p.2) (
    entry_fails sbox_entry c.args.entries.now.entries c.loop-name.name-iterator (map named_table_of c.loop-name.tables.items) so_far
    c.in-Some.name.now c.in-Some.value.now c.next.new.self next c.as_str.result.now c.as_str.ensures.value (fault_of c.in_err-table.field-0.0) c.in_err-table.ensures.err
    )

pub returns-clause-ok : goal.returns-clause-ok
returns-clause-ok c = entries_end sbox_entry c.args.entries.now.entries c.loop-name.name-iterator (map named_table_of c.loop-name.tables.items) c.loop-name.invariant.0 c.in-None.ensures.steps.0

pub returns-clause-order : goal.returns-clause-order
returns-clause-order c =
    ascending_names sbox_entry named_table_of (λ (x : NamedTable). x.name) sbox_name c.args.entries.now.entries c.loop-name.tables.items
    (entries_end sbox_entry c.args.entries.now.entries c.loop-name.name-iterator (map named_table_of c.loop-name.tables.items) c.loop-name.invariant.0 c.in-None.ensures.steps.0)
    c.into_iter-name-iterator.ensures.into_iter_gives.5
