use Rattle.std.proofs.Common.{arith, ◌+◌}
use Rattle.imp_text.proofs.TokenLemmas.{StandBetween-up_to}
use Rattle.imp_text.proofs.words.push_line.Goals as goal

pub returns-clause-places : goal.returns-clause-places
returns-clause-places c =
    StandBetween-up_to 0 (c.args.start + c.line_text-text.result.end) c.args.end c.push_words.new.tokens.items c.in_ok-push_words.ensures.places (omega arith)
