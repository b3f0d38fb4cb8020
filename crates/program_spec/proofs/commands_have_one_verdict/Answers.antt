use Rattle.program_spec.proofs.StepLaws.{one_of_command}
use Rattle.program_spec.proofs.commands_have_one_verdict.Goals as goal

pub returns : goal.returns
returns c = one_of_command
