use Rattle.std.proofs.Common.{length, arith}
use Rattle.imp_text.proofs.TokenLemmas.{IsWithin-from_between}
use Rattle.imp_text.proofs.lines.Lines.next_line.Goals as goal

pub returns-in-Ok-clause-within : goal.returns-in-Ok-clause-within
returns-in-Ok-clause-within c =
    IsWithin-from_between c.args.self.now.source 0 (length c.args.self.now.source) c.find_line.new.tokens.items (omega arith) (rw (← c.self.view_is) c.in-Ok.ensures.in_order)
