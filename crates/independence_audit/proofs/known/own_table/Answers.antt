use Rattle.std.proofs.Common.{◌≡◌, ◌≤◌, sym, ◌∙◌, ap, subst, length, map, filter_map, List}
use Rattle.imp_text.specs.declared.names.NameId.{NameId}
use Rattle.blif_read.specs.declared.file.Located.{Located}
use Rattle.blif_read.specs.declared.file.Port.{Port}
use Rattle.blif_read.specs.View.{name_at, model_of}
use Rattle.independence_audit.specs.Known.{input_of}
use Rattle.independence_audit.proofs.KnownLemmas.{stored_named, stored_within, given_few, ports_named, ports_within, ids_ready, few_ids, names_few, keeps_own}
use Rattle.independence_audit.proofs.known.own_table.Goals as goal

pub named_table-requires-clause-latches : goal.named_table-requires-clause-latches
named_table-requires-clause-latches c =
    let m = c.args.m.now in
    let is : c.deref-3.result.now ≡ filter_map (λ (s : Located). input_of s.what) m.statements.items =
    c.deref-3.ensures.value ∙ (c.in_ok-latches.ensures ∙ ap (filter_map (λ (s : Located). input_of s.what)) c.deref.ensures.value) in
    ids_ready c.len-nets.result m.names c.deref-3.result.now _ c.len-nets.ensures.count is (stored_within m.names m.statements.items c.requires.ids.statements)

pub named_table-requires-clause-outputs : goal.named_table-requires-clause-outputs
named_table-requires-clause-outputs c =
    let m = c.args.m.now in
    let is : c.deref-4.result.now ≡ map (λ (p : Port). p.name) m.outputs.items = c.deref-4.ensures.value ∙ (c.in_ok-outputs.ensures ∙ ap (map (λ (p : Port). p.name)) c.deref-2.ensures.value) in
    ids_ready c.len-nets.result m.names c.deref-4.result.now _ c.len-nets.ensures.count is (ports_within m.names m.outputs.items c.requires.ids.outputs)

pub named_table-requires-clause-few : goal.named_table-requires-clause-few
named_table-requires-clause-few c =
    let m = c.args.m.now in
    let is : c.deref-3.result.now ≡ filter_map (λ (s : Located). input_of s.what) m.statements.items =
    c.deref-3.ensures.value ∙ (c.in_ok-latches.ensures ∙ ap (filter_map (λ (s : Located). input_of s.what)) c.deref.ensures.value) in
    few_ids c.deref-3.result.now _ (length m.statements.items) is (given_few (λ (s : Located). input_of s.what) m.statements.items) c.requires.few

pub named_table-requires-clause-few_outputs : goal.named_table-requires-clause-few_outputs
named_table-requires-clause-few_outputs c =
    let m = c.args.m.now in
    let is : c.deref-4.result.now ≡ map (λ (p : Port). p.name) m.outputs.items = c.deref-4.ensures.value ∙ (c.in_ok-outputs.ensures ∙ ap (map (λ (p : Port). p.name)) c.deref-2.ensures.value) in
    few_ids c.deref-4.result.now _ (length m.outputs.items) is (names_few m.outputs.items) c.requires.few_outputs

pub returns : goal.returns
returns c =
    let m = c.args.m.now in
    let is : c.deref-3.result.now ≡ filter_map (λ (s : Located). input_of s.what) m.statements.items =
    c.deref-3.ensures.value ∙ (c.in_ok-latches.ensures ∙ ap (filter_map (λ (s : Located). input_of s.what)) c.deref.ensures.value) in
    let outs : c.deref-4.result.now ≡ map (λ (p : Port). p.name) m.outputs.items = c.deref-4.ensures.value ∙ (c.in_ok-outputs.ensures ∙ ap (map (λ (p : Port). p.name)) c.deref-2.ensures.value) in
    keeps_own (model_of m) c.in_ok-table.table.items (map (name_at m.names) c.deref-3.result.now) (map (name_at m.names) c.deref-4.result.now) (ap (map (name_at m.names)) is ∙ stored_named m.names m.statements.items)
    (ap (map (name_at m.names)) outs ∙ ports_named m.names m.outputs.items) (c.in_ok-table.ensures m.names c.len-nets.ensures.are_names.distinct (sym c.len-nets.ensures.count))
