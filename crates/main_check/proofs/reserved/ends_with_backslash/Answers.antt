use Rattle.std.proofs.Common.{sym}
use Rattle.imp_text.proofs.LineTextLemmas.{ends_with_backslash-last}
use Rattle.main_check.proofs.reserved.ends_with_backslash.Goals as goal

pub returns-in-Some : goal.returns-in-Some
returns-in-Some c =
    sym (ends_with_backslash-last c.args.bytes.now c.in-Some.last.now c.in-Some.ensures.item.3.0 c.in-Some.ensures.item.1)
