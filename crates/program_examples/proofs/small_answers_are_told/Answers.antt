use Rattle.std.proofs.Common.{refl}
use Rattle.std.specs.Fmt.{digits}
use Rattle.program_examples.proofs.small_answers_are_told.Goals as goal

pub returns-clause-count : goal.returns-clause-count
unfolding digits
returns-clause-count c = refl

pub returns-clause-distance : goal.returns-clause-distance
unfolding digits
returns-clause-distance c = refl
