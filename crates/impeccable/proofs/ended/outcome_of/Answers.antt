use Rattle.std.proofs.Common.{ap, ◌∙◌}
use Rattle.impeccable.specs.Ended.{answer_of, stop_answer}
use Rattle.impeccable.proofs.ended.outcome_of.Goals as goal

pub returns-in-Err-ReadFault : goal.returns-in-Err-ReadFault
returns-in-Err-ReadFault c = (c.in-Err-ReadFault.field-0-0.now, ap answer_of c.in-Err-ReadFault.is ∙ ap stop_answer c.in-Err-ReadFault.field-0-is)
