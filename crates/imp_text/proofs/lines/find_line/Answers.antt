use Rattle.std.proofs.Common.{length}
use Rattle.imp_text.proofs.TokenLemmas.{StandBetween-up_to}
use Rattle.imp_text.proofs.lines.find_line.Goals as goal

pub returns-then-not-is_empty-clause-in_order : goal.returns-then-not-is_empty-clause-in_order
returns-then-not-is_empty-clause-in_order c =
    StandBetween-up_to 0 c.in_ok-next.next.start (length c.args.source.now) c.push_logical_line.new.tokens.items c.in_ok-next.ensures.in_order c.in_ok-next.ensures.next.within
