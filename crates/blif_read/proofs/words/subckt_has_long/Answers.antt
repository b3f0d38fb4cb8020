use Rattle.std.proofs.Common.{◌∙◌, sym}
use Rattle.std.proofs.lemmas.List.{take_rest}
use Rattle.blif_read.proofs.WordTests.{subckt_long}
use Rattle.blif_read.proofs.words.subckt_has_long.Goals as goal

pub returns-else-is_long : goal.returns-else-is_long
returns-else-is_long c =
    rw (take_rest c.args.words.now 1) at c.ports_have_long.ensures
    ∙ subckt_long c.args.words.now _ c.in-len1-up.len_at_least (sym c.is_long.ensures ∙ c.if-is_long.false)
