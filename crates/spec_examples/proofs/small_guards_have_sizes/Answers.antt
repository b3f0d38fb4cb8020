use Rattle.std.proofs.Common.{refl}
use Rattle.spec_examples.proofs.Inverter.{inverter_plain}
use Rattle.spec_examples.proofs.small_guards_have_sizes.Goals as goal

pub returns-clause-inverter : goal.returns-clause-inverter
returns-clause-inverter c = inverter_plain

pub returns-clause-corrector : goal.returns-clause-corrector
returns-clause-corrector c = refl

pub returns-clause-far_rail : goal.returns-clause-far_rail
returns-clause-far_rail c = refl
