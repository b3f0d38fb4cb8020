use Rattle.spec_examples.proofs.InverterGuard.{inverter_means, text_is_ordered, text_is_independent, text_is_shaped, text_is_built, text_is_guard, toggle_is_named_guard}
use Rattle.spec_examples.proofs.guards.small_text_is_a_guard.Goals as goal

pub returns-clause-source : goal.returns-clause-source
returns-clause-source c = inverter_means

pub returns-clause-shaped : goal.returns-clause-shaped
returns-clause-shaped c = (text_is_shaped, text_is_ordered, text_is_independent)

pub returns-clause-built : goal.returns-clause-built
returns-clause-built c = text_is_built

pub returns-clause-guard : goal.returns-clause-guard
returns-clause-guard c = text_is_guard

pub returns-clause-named : goal.returns-clause-named
returns-clause-named c = toggle_is_named_guard
