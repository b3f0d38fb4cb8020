use Rattle.line_order.proofs.TableLemmas.{pass_gate, pass_latch}
use Rattle.line_order.proofs.tables.Tables.pass_statement.Goals as goal

pub returns-in-Names : goal.returns-in-Names
returns-in-Names c = λ m passed line t.
    rw c.in-Names.is (pass_gate m passed c.args.self.now t line _ _ _ c.mark.new.self c.mark-in-Names.new.self (c.mark.ensures.marked m.names _ t.cells) (c.mark-in-Names.ensures.marked m.names _ t.known))

pub returns-in-Latch : goal.returns-in-Latch
returns-in-Latch c = λ m passed line t.
    rw c.in-Latch.is (pass_latch m passed c.args.self.now t line _ _ _ _ c.mark-in-Latch.new.self (c.mark-in-Latch.ensures.marked m.names _ t.cells))
