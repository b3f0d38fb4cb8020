use Rattle.std.proofs.Common.{◌≡◌, sym, ◌∙◌, ap, map, find, not, Some, None}
use Rattle.std.specs.Option.{option_or}
use Rattle.std.proofs.lemmas.Result.{IfOk-weaker}
use Rattle.netlist_spec.specs.Netlist.{Name, stands_in}
use Rattle.netlist_spec.specs.Placed.{port_names}
use Rattle.blif_read.specs.declared.file.Port.{Port}
use Rattle.blif_read.specs.View.{name_at, model_of}
use Rattle.line_order.proofs.TableLemmas.{ports_named}
use Rattle.source_placements.proofs.PortLemmas.{missing_inputs}
use Rattle.source_placements.proofs.missing.missing_of_model.Goals as goal

pub returns-in-Some : goal.returns-in-Some
returns-in-Some c =
    let m = c.args.m.now in
    let M = model_of m in
    let p = λ (n : Name). not (stands_in n c.args.given.now) in
    let inputs = ap (map (λ (q : Port). name_at m.names q.name)) c.deref.ensures.value ∙ ports_named m.names m.inputs.items in
    let found : find p (port_names M.inputs) ≡ Some c.in-Some.name = ap (find p) (sym inputs) ∙ sym c.in_ok-name.ensures ∙ c.in-Some.is in
    sym (missing_inputs p (port_names M.inputs) (port_names M.clocks) ∙ ap (λ o. option_or o (find p (port_names M.clocks))) found)

pub returns : goal.returns
returns c =
    let m = c.args.m.now in
    let M = model_of m in
    let p = λ (n : Name). not (stands_in n c.args.given.now) in
    let inputs = ap (map (λ (q : Port). name_at m.names q.name)) c.deref.ensures.value ∙ ports_named m.names m.inputs.items in
    let clocks = ap (map (λ (q : Port). name_at m.names q.name)) c.deref-2.ensures.value ∙ ports_named m.names m.clocks.items in
    let none : find p (port_names M.inputs) ≡ None = ap (find p) (sym inputs) ∙ sym c.in_ok-name.ensures ∙ c.in_default.is in
    IfOk-weaker c.missing_among-2.result _ _
    (λ found e. e ∙ ap (find p) clocks ∙ sym (missing_inputs p (port_names M.inputs) (port_names M.clocks) ∙ ap (λ o. option_or o (find p (port_names M.clocks))) none))
    c.missing_among-2.ensures
