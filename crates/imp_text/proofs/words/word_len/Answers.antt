use Rattle.std.proofs.Common.{length, ap, ◌∙◌}
use Rattle.std.specs.Prelude.{unwrap_or}
use Rattle.netlist_spec.specs.Lines.{is_blank}
use Rattle.imp_text.proofs.FirstPlace.{unwrap_or-position}
use Rattle.imp_text.proofs.words.word_len.Goals as goal

pub returns-clause-len : goal.returns-clause-len
returns-clause-len c =
    let bytes = c.args.bytes.now in
    c.unwrap_or.ensures ∙ ap (λ r. unwrap_or r (length bytes)) c.first_blank.ensures ∙ unwrap_or-position is_blank bytes
