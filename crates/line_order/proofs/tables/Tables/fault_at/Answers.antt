use Rattle.std.proofs.Common.{◌∙◌, sym, ap, subst}
use Rattle.netlist_spec.specs.FileOrder.{an_input, an_output, a_clock}
use Rattle.netlist_spec.specs.Ordered.{item_fault}
use Rattle.blif_read.specs.View.{model_of}
use Rattle.line_order.specs.Merge.{IsPlace, item_at}
use Rattle.line_order.proofs.MergeLemmas.{port_at, statement_at}
use Rattle.line_order.proofs.TableLemmas.{told_if}
use Rattle.line_order.proofs.tables.Tables.fault_at.Goals as goal

pub returns-in-Input : goal.returns-in-Input
returns-in-Input c = λ passed t.
    let m = c.args.m.now in
    let port = c.index-port.result.now in
    let at = port_at (λ n. an_input n) m.names m.inputs.items c.in-Input.i port (subst (IsPlace m) c.in-Input.is c.requires.place) c.index-port.ensures in
    c.unordered_if.ensures
    ∙ (told_if c.is_input_again.result port.line _ (c.is_input_again.ensures (model_of m) passed t) ∙ ap (item_fault (model_of m) passed) (sym (ap (item_at (model_of m)) c.in-Input.is ∙ at)))

pub returns-in-Output : goal.returns-in-Output
returns-in-Output c = λ passed t.
    let m = c.args.m.now in
    let port = c.index-port-in-Output.result.now in
    let at = port_at (λ n. an_output n) m.names m.outputs.items c.in-Output.i port (subst (IsPlace m) c.in-Output.is c.requires.place) c.index-port-in-Output.ensures in
    c.unordered_if-in-Output.ensures
    ∙ (told_if c.is_wrong_output.result port.line _ (c.is_wrong_output.ensures (model_of m) passed t) ∙ ap (item_fault (model_of m) passed) (sym (ap (item_at (model_of m)) c.in-Output.is ∙ at)))

pub returns-in-Clock : goal.returns-in-Clock
returns-in-Clock c = λ passed t.
    let m = c.args.m.now in
    let port = c.index-port-in-Clock.result.now in
    let at = port_at (λ n. a_clock n) m.names m.clocks.items c.in-Clock.i port (subst (IsPlace m) c.in-Clock.is c.requires.place) c.index-port-in-Clock.ensures in
    c.unordered_if-in-Clock.ensures
    ∙ (told_if c.is_clock_again.result port.line _ (c.is_clock_again.ensures (model_of m) passed t) ∙ ap (item_fault (model_of m) passed) (sym (ap (item_at (model_of m)) c.in-Clock.is ∙ at)))

pub returns-in-Statement : goal.returns-in-Statement
returns-in-Statement c = λ passed t.
    let m = c.args.m.now in
    let at = statement_at m.names m.statements.items c.in-Statement.i c.index.result.now (subst (IsPlace m) c.in-Statement.is c.requires.place) c.index.ensures in
    c.statement_fault.ensures (model_of m) passed t ∙ ap (item_fault (model_of m) passed) (sym (ap (item_at (model_of m)) c.in-Statement.is ∙ at))
