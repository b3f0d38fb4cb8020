use Rattle.std.proofs.Common.{ap, sym, ◌∙◌, ◌++◌, codes}
use Rattle.imp_text.specs.Quantities.{quantity_of}
use Rattle.program_spec.specs.ErrorLines.{at_line, refusal_text}
use Rattle.refusals.specs.Refusal.{refusal_of}
use Rattle.refusals.proofs.LineLemmas.{word_escaped}
use Rattle.refusals.proofs.told.told_of.Goals as goal

pub returns-in-TooMany : goal.returns-in-TooMany
returns-in-TooMany c =
    (rw (c.as_bytes.ensures.value, c.word.ensures) at c.on_line-in-TooMany.ensures)
    ∙ (ap (λ w. at_line (codes "B7") c.in-TooMany.line (codes "too many " ++ w)) (word_escaped (quantity_of c.in-TooMany.what)) ∙ sym (ap (λ r. refusal_text (refusal_of r)) c.in-TooMany.is))

pub returns-in-UnknownStatement : goal.returns-in-UnknownStatement
returns-in-UnknownStatement c = (rw c.bytes-in-UnknownStatement.ensures at c.on_line.ensures) ∙ sym (ap (λ r. refusal_text (refusal_of r)) c.in-UnknownStatement.is)

pub returns-in-TwiceModel : goal.returns-in-TwiceModel
returns-in-TwiceModel c = (rw c.bytes-in-TwiceModel.ensures.bytes at c.on_line-in-TwiceModel.ensures) ∙ sym (ap (λ r. refusal_text (refusal_of r)) c.in-TwiceModel.is)

pub returns-in-BadSubckt : goal.returns-in-BadSubckt
returns-in-BadSubckt c = c.on_line-in-BadSubckt.ensures ∙ sym (ap (λ r. refusal_text (refusal_of r)) c.in-BadSubckt.is)

pub returns-in-WordCount : goal.returns-in-WordCount
returns-in-WordCount c = c.on_line-in-WordCount.ensures ∙ sym (ap (λ r. refusal_text (refusal_of r)) c.in-WordCount.is)
