use Rattle.std.proofs.Common.{◌∙◌, ◌++◌, ◌∷◌, [], sym, ap, subst}
use Rattle.netlist_spec.specs.FileOrder.{an_input, an_output, a_clock, Item}
use Rattle.blif_read.specs.View.{name_at, model_of}
use Rattle.line_order.specs.Merge.{IsPlace, item_at}
use Rattle.line_order.specs.Tables.{AreTables}
use Rattle.line_order.proofs.MergeLemmas.{port_at, statement_at}
use Rattle.line_order.proofs.TableLemmas.{pass_input, pass_output, pass_clock}
use Rattle.line_order.proofs.tables.Tables.pass.Goals as goal

pub returns-in-Input : goal.returns-in-Input
returns-in-Input c = λ passed t.
    let m = c.args.m.now in
    let port = c.index.result.now in
    let at = port_at (λ n. an_input n) m.names m.inputs.items c.in-Input.i port (subst (IsPlace m) c.in-Input.is c.requires.place) c.index.ensures in
    subst (λ (i : Item). AreTables (model_of m) (passed ++ i ∷ []) (record c.args.self.now { inputs = c.mark.new.self })) (sym (ap (item_at (model_of m)) c.in-Input.is ∙ at))
    (pass_input (model_of m) passed c.args.self.now t port.line (name_at m.names port.name) c.mark.new.self (c.mark.ensures.marked m.names _ t.inputs))

pub returns-in-Output : goal.returns-in-Output
returns-in-Output c = λ passed t.
    let m = c.args.m.now in
    let port = c.index-in-Output.result.now in
    let at = port_at (λ n. an_output n) m.names m.outputs.items c.in-Output.i port (subst (IsPlace m) c.in-Output.is c.requires.place) c.index-in-Output.ensures in
    subst (λ (i : Item). AreTables (model_of m) (passed ++ i ∷ []) (record c.args.self.now { outputs = c.mark-in-Output.new.self })) (sym (ap (item_at (model_of m)) c.in-Output.is ∙ at))
    (pass_output (model_of m) passed c.args.self.now t port.line (name_at m.names port.name) c.mark-in-Output.new.self (c.mark-in-Output.ensures.marked m.names _ t.outputs))

pub returns-in-Clock : goal.returns-in-Clock
returns-in-Clock c = λ passed t.
    let m = c.args.m.now in
    let port = c.index-in-Clock.result.now in
    let at = port_at (λ n. a_clock n) m.names m.clocks.items c.in-Clock.i port (subst (IsPlace m) c.in-Clock.is c.requires.place) c.index-in-Clock.ensures in
    subst (λ (i : Item). AreTables (model_of m) (passed ++ i ∷ []) (record c.args.self.now { clocks = c.mark-in-Clock.new.self })) (sym (ap (item_at (model_of m)) c.in-Clock.is ∙ at))
    (pass_clock (model_of m) passed c.args.self.now t port.line (name_at m.names port.name) c.mark-in-Clock.new.self (c.mark-in-Clock.ensures.marked m.names _ t.clocks))

pub returns-in-Statement : goal.returns-in-Statement
returns-in-Statement c = λ passed t.
    let m = c.args.m.now in
    let s = c.index-in-Statement.result.now in
    let at = statement_at m.names m.statements.items c.in-Statement.i s (subst (IsPlace m) c.in-Statement.is c.requires.place) c.index-in-Statement.ensures in
    subst (λ (i : Item). AreTables (model_of m) (passed ++ i ∷ []) c.pass_statement.new.self) (sym (ap (item_at (model_of m)) c.in-Statement.is ∙ at))
    (c.pass_statement.ensures (model_of m) passed s.line t)
