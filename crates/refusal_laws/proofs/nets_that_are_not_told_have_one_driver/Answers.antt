use Rattle.refusal_laws.proofs.OneRefusal.{one_each}
use Rattle.refusal_laws.proofs.nets_that_are_not_told_have_one_driver.Goals as goal

pub returns : goal.returns
returns c = λ file library none m used. one_each file library none m used
