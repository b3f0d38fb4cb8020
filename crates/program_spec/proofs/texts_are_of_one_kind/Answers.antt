use Rattle.program_spec.proofs.StepLaws.{one_kind}
use Rattle.program_spec.proofs.texts_are_of_one_kind.Goals as goal

pub returns : goal.returns
returns c = one_kind
