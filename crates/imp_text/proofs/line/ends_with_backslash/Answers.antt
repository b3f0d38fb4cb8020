use Rattle.std.proofs.Common.{sym}
use Rattle.imp_text.proofs.LineTextLemmas.{ends_with_backslash-last}
use Rattle.imp_text.proofs.line.ends_with_backslash.Goals as goal

pub returns-in-Some-clause-value : goal.returns-in-Some-clause-value
returns-in-Some-clause-value c =
    sym (ends_with_backslash-last c.args.bytes.now c.in-Some.last.now c.in-Some.ensures.item.3.0 c.in-Some.ensures.item.1)
