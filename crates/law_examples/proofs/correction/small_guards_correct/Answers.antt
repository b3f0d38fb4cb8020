use Rattle.std.proofs.Common.{refl}
use Rattle.law_examples.proofs.JoinedGuard.{corrector_is_made, corrector_is_guard, toggle_size}
use Rattle.law_examples.proofs.correction.small_guards_correct.Goals as goal

pub returns-clause-made : goal.returns-clause-made
returns-clause-made c = corrector_is_made

pub returns-clause-promised : goal.returns-clause-promised
returns-clause-promised c = corrector_is_guard

pub returns-clause-size : goal.returns-clause-size
returns-clause-size c = (toggle_size, refl)
