use Rattle.program_spec.specs.Verdict.{walk_of}
use Rattle.program_spec.proofs.WalkLaws.{ends_at_loads, loads_are_steps}
use Rattle.program_spec.proofs.commands_end_at_their_loads.Goals as goal

pub returns-clause-ends : goal.returns-clause-ends
returns-clause-ends c = λ command. ends_at_loads (walk_of command)

pub returns-clause-own : goal.returns-clause-own
returns-clause-own c = λ command. loads_are_steps (walk_of command)
