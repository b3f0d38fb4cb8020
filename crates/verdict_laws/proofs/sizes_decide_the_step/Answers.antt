use Rattle.program_spec.specs.Walk.{end}
use Rattle.program_spec.proofs.StepLaws.{smallness_test}
use Rattle.verdict_laws.proofs.SmallSizes.{small_then, large_then}
use Rattle.verdict_laws.proofs.sizes_decide_the_step.Goals as goal

pub returns-clause-small : goal.returns-clause-small
returns-clause-small c = λ file s m l n contents v. small_then c.sizes_stand_alone.ensures.alone file s m l n (λ small. end) contents v

pub returns-clause-large : goal.returns-clause-large
returns-clause-large c = λ file s m l n contents v. large_then c.sizes_stand_alone.ensures.alone file s m l n (λ small. end) contents v

pub returns-clause-one : goal.returns-clause-one
returns-clause-one c = smallness_test
