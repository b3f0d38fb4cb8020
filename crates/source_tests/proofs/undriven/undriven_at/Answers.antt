use Rattle.std.proofs.Common.{◌<◌, ◌∙◌, sym, ap, subst, length, find, not, All, inl, inr}
use Rattle.std.proofs.lemmas.List.{length-map}
use Rattle.netlist_spec.specs.Netlist.{stands_in}
use Rattle.netlist_spec.specs.FileOrder.{an_output, Item}
use Rattle.netlist_spec.specs.SoundFaults.{item_reads}
use Rattle.imp_text.specs.declared.names.NameId.{NameId}
use Rattle.blif_read.specs.View.{model_of, located_of}
use Rattle.line_order.specs.Merge.{IsPlace, item_at}
use Rattle.line_order.proofs.MergeLemmas.{port_at}
use Rattle.source_nets.specs.Ports.{source_file, source_library}
use Rattle.source_tests.proofs.ItemLemmas.{something_at, statement_item, inputs_read_nothing, clocks_read_nothing}
use Rattle.source_tests.proofs.undriven.undriven_at.Goals as goal

pub first_unmarked-requires-in-Statement : goal.first_unmarked-requires-in-Statement
first_unmarked-requires-in-Statement c =
    let F = source_file c.args.source.now in
    let L = source_library c.args.source.now in
    subst (λ n. All (λ (id : NameId). id.0 < n) c.reads.result.now) (sym c.requires.size) (c.reads.ensures.within F L (model_of c.args.m.now) c.requires.survey)

pub returns-in-Input-clause-name : goal.returns-in-Input-clause-name
returns-in-Input-clause-name c = λ nets k.
    let F = source_file c.args.source.now in
    let L = source_library c.args.source.now in
    let M = model_of c.args.m.now in
    elim c.in-Input.is [
      | inl h ↦ sym (ap (λ p. find (λ n. not (stands_in n nets)) (item_reads F L (item_at M p).what)) h.1 ∙ ap (find (λ n. not (stands_in n nets))) (inputs_read_nothing F L M h.0))
      | inr h ↦ sym (ap (λ p. find (λ n. not (stands_in n nets)) (item_reads F L (item_at M p).what)) h.1 ∙ ap (find (λ n. not (stands_in n nets))) (clocks_read_nothing F L M h.0))
    ]

pub returns-in-Output-clause-name : goal.returns-in-Output-clause-name
returns-in-Output-clause-name c = λ nets k.
    let F = source_file c.args.source.now in
    let L = source_library c.args.source.now in
    let m = c.args.m.now in
    let at = port_at (λ n. an_output n) m.names m.outputs.items c.in-Output.i c.index.result.now (subst (IsPlace m) c.in-Output.is c.requires.place) c.index.ensures in
    c.first_unmarked.ensures.name m.names nets k
    ∙ ap (λ (i : Item). find (λ n. not (stands_in n nets)) (item_reads F L i.what)) (sym (ap (item_at (model_of m)) c.in-Output.is ∙ at))

pub returns-in-Statement-clause-name : goal.returns-in-Statement-clause-name
returns-in-Statement-clause-name c = λ nets k.
    let F = source_file c.args.source.now in
    let L = source_library c.args.source.now in
    let m = c.args.m.now in
    let M = model_of m in
    let inside : c.in-Statement.i < length M.statements =
    subst (λ n. c.in-Statement.i < n) (sym (length-map m.statements.items (located_of m.names))) (subst (IsPlace m) c.in-Statement.is c.requires.place) in
    let s = something_at M.statements c.in-Statement.i inside in
    c.first_unmarked-in-Statement.ensures.name m.names nets k
    ∙ ap (find (λ n. not (stands_in n nets))) (c.reads.ensures.names F L M s.0 c.requires.survey s.1)
    ∙ ap (λ (i : Item). find (λ n. not (stands_in n nets)) (item_reads F L i.what)) (sym (ap (item_at M) c.in-Statement.is ∙ statement_item M.statements c.in-Statement.i s.0 s.1))
