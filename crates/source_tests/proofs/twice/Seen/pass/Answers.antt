use Rattle.std.proofs.Common.{◌<◌, ◌∙◌, ◌++◌, ◌∷◌, [], sym, ap, subst, length, All}
use Rattle.std.proofs.lemmas.List.{length-map}
use Rattle.netlist_spec.specs.FileOrder.{an_input, an_output, a_clock, Item, inputs_among, outputs_among, clocks_among}
use Rattle.netlist_spec.specs.SoundFaults.{driven_among, first_repeated, twice_at}
use Rattle.imp_text.specs.declared.names.NameId.{NameId}
use Rattle.blif_read.specs.View.{model_of, name_at, located_of}
use Rattle.line_order.specs.Marks.{Marks}
use Rattle.line_order.specs.Merge.{IsPlace, item_at}
use Rattle.line_order.proofs.MergeLemmas.{port_at}
use Rattle.source_nets.specs.Ports.{source_file, source_library}
use Rattle.source_tests.specs.Seen.{AreSeen}
use Rattle.source_tests.proofs.ItemLemmas.{something_at, statement_item}
use Rattle.source_tests.proofs.SeenLemmas.{if_none, always, pass_input, pass_output, pass_clock, pass_statement}
use Rattle.source_tests.proofs.twice.Seen.pass.Goals as goal

pub mark_driven-requires-clause-nets : goal.mark_driven-requires-clause-nets
mark_driven-requires-clause-nets c =
    subst (λ n. All (λ (id : NameId). id.0 < n) c.drives.result.now) (sym c.requires.size.driven)
    (c.drives.ensures.within (source_file c.args.source.now) (source_library c.args.source.now) (model_of c.args.m.now) c.requires.survey)

pub returns-in-Input-clause-name : goal.returns-in-Input-clause-name
returns-in-Input-clause-name c = λ passed a.
    let F = source_file c.args.source.now in
    let L = source_library c.args.source.now in
    let m = c.args.m.now in
    let at = port_at (λ n. an_input n) m.names m.inputs.items c.in-Input.i c.index.result.now (subst (IsPlace m) c.in-Input.is c.requires.place) c.index.ensures in
    c.mark_declared.ensures.name m.names (inputs_among passed) (driven_among F L passed) a.inputs a.driven
    ∙ ap (λ (i : Item). twice_at F L passed i.what) (sym (ap (item_at (model_of m)) c.in-Input.is ∙ at))

pub returns-in-Input-clause-seen : goal.returns-in-Input-clause-seen
returns-in-Input-clause-seen c = always c.mark_declared.result _ (λ passed a.
    let F = source_file c.args.source.now in
    let L = source_library c.args.source.now in
    let m = c.args.m.now in
    let port = c.index.result.now in
    let at = port_at (λ n. an_input n) m.names m.inputs.items c.in-Input.i port (subst (IsPlace m) c.in-Input.is c.requires.place) c.index.ensures in
    subst (λ (i : Item). AreSeen F L (model_of m) (passed ++ i ∷ []) (record c.args.self.now { inputs = c.mark_declared.new.ports })) (sym (ap (item_at (model_of m)) c.in-Input.is ∙ at))
    (pass_input F L (model_of m) passed c.args.self.now a port.line (name_at m.names port.name) c.mark_declared.new.ports (c.mark_declared.ensures.marked m.names _ a.inputs)))

pub returns-in-Output-clause-name : goal.returns-in-Output-clause-name
returns-in-Output-clause-name c = λ passed a.
    let F = source_file c.args.source.now in
    let L = source_library c.args.source.now in
    let m = c.args.m.now in
    let at = port_at (λ n. an_output n) m.names m.outputs.items c.in-Output.i c.index-in-Output.result.now (subst (IsPlace m) c.in-Output.is c.requires.place) c.index-in-Output.ensures in
    c.mark_shown.ensures.name m.names (outputs_among passed) a.outputs ∙ ap (λ (i : Item). twice_at F L passed i.what) (sym (ap (item_at (model_of m)) c.in-Output.is ∙ at))

pub returns-in-Output-clause-seen : goal.returns-in-Output-clause-seen
returns-in-Output-clause-seen c = always c.mark_shown.result _ (λ passed a.
    let F = source_file c.args.source.now in
    let L = source_library c.args.source.now in
    let m = c.args.m.now in
    let port = c.index-in-Output.result.now in
    let at = port_at (λ n. an_output n) m.names m.outputs.items c.in-Output.i port (subst (IsPlace m) c.in-Output.is c.requires.place) c.index-in-Output.ensures in
    subst (λ (i : Item). AreSeen F L (model_of m) (passed ++ i ∷ []) (record c.args.self.now { outputs = c.mark_shown.new.outputs })) (sym (ap (item_at (model_of m)) c.in-Output.is ∙ at))
    (pass_output F L (model_of m) passed c.args.self.now a port.line (name_at m.names port.name) c.mark_shown.new.outputs (c.mark_shown.ensures.marked m.names _ a.outputs)))

pub returns-in-Clock-clause-name : goal.returns-in-Clock-clause-name
returns-in-Clock-clause-name c = λ passed a.
    let F = source_file c.args.source.now in
    let L = source_library c.args.source.now in
    let m = c.args.m.now in
    let at = port_at (λ n. a_clock n) m.names m.clocks.items c.in-Clock.i c.index-in-Clock.result.now (subst (IsPlace m) c.in-Clock.is c.requires.place) c.index-in-Clock.ensures in
    c.mark_declared-in-Clock.ensures.name m.names (clocks_among passed) (driven_among F L passed) a.clocks a.driven
    ∙ ap (λ (i : Item). twice_at F L passed i.what) (sym (ap (item_at (model_of m)) c.in-Clock.is ∙ at))

pub returns-in-Clock-clause-seen : goal.returns-in-Clock-clause-seen
returns-in-Clock-clause-seen c = always c.mark_declared-in-Clock.result _ (λ passed a.
    let F = source_file c.args.source.now in
    let L = source_library c.args.source.now in
    let m = c.args.m.now in
    let port = c.index-in-Clock.result.now in
    let at = port_at (λ n. a_clock n) m.names m.clocks.items c.in-Clock.i port (subst (IsPlace m) c.in-Clock.is c.requires.place) c.index-in-Clock.ensures in
    subst (λ (i : Item). AreSeen F L (model_of m) (passed ++ i ∷ []) (record c.args.self.now { clocks = c.mark_declared-in-Clock.new.ports })) (sym (ap (item_at (model_of m)) c.in-Clock.is ∙ at))
    (pass_clock F L (model_of m) passed c.args.self.now a port.line (name_at m.names port.name) c.mark_declared-in-Clock.new.ports (c.mark_declared-in-Clock.ensures.marked m.names _ a.clocks)))

pub returns-in-Statement-clause-name : goal.returns-in-Statement-clause-name
returns-in-Statement-clause-name c = λ passed a.
    let F = source_file c.args.source.now in
    let L = source_library c.args.source.now in
    let m = c.args.m.now in
    let M = model_of m in
    let inside : c.in-Statement.i < length M.statements =
    subst (λ n. c.in-Statement.i < n) (sym (length-map m.statements.items (located_of m.names))) (subst (IsPlace m) c.in-Statement.is c.requires.place) in
    let s = something_at M.statements c.in-Statement.i inside in
    c.mark_driven.ensures.name m.names (inputs_among passed) (clocks_among passed) (driven_among F L passed) a.inputs a.clocks a.driven
    ∙ ap (first_repeated (inputs_among passed ++ clocks_among passed ++ driven_among F L passed)) (c.drives.ensures.names F L M s.0 c.requires.survey s.1)
    ∙ ap (λ (i : Item). twice_at F L passed i.what) (sym (ap (item_at M) c.in-Statement.is ∙ statement_item M.statements c.in-Statement.i s.0 s.1))

pub returns-in-Statement-clause-seen : goal.returns-in-Statement-clause-seen
returns-in-Statement-clause-seen c = if_none c.mark_driven.result _ _ (λ marked passed a.
    let F = source_file c.args.source.now in
    let L = source_library c.args.source.now in
    let m = c.args.m.now in
    let M = model_of m in
    let inside : c.in-Statement.i < length M.statements =
    subst (λ n. c.in-Statement.i < n) (sym (length-map m.statements.items (located_of m.names))) (subst (IsPlace m) c.in-Statement.is c.requires.place) in
    let s = something_at M.statements c.in-Statement.i inside in
    subst (λ (i : Item). AreSeen F L M (passed ++ i ∷ []) (record c.args.self.now { driven = c.mark_driven.new.driven })) (sym (ap (item_at M) c.in-Statement.is ∙ statement_item M.statements c.in-Statement.i s.0 s.1))
    (pass_statement F L M passed c.args.self.now a s.0.line s.0.what c.mark_driven.new.driven
    (subst (λ ns. Marks m.names c.mark_driven.new.driven (driven_among F L passed ++ ns)) (c.drives.ensures.names F L M s.0 c.requires.survey s.1) (marked m.names (driven_among F L passed) a.driven))))
    c.mark_driven.ensures.marked
