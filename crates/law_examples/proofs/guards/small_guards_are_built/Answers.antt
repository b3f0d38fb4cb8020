use Rattle.law_examples.proofs.ToggleGuard.{toggle_from}
use Rattle.law_examples.proofs.guards.small_guards_are_built.Goals as goal

pub returns : goal.returns
returns c = toggle_from
