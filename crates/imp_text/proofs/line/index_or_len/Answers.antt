use Rattle.std.proofs.Common.{◌∙◌}
use Rattle.imp_text.proofs.FirstPlace.{unwrap_or-first_byte}
use Rattle.imp_text.proofs.line.index_or_len.Goals as goal

pub returns-clause-index : goal.returns-clause-index
returns-clause-index c =
    c.unwrap_or.ensures ∙ unwrap_or-first_byte c.args.byte c.args.bytes.now c.find_byte.result c.find_byte.ensures
