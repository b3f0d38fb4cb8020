use Rattle.guard_spec.proofs.GuardRun.{guard_runs}
use Rattle.guard_spec.proofs.guards_have_a_run.Goals as goal

pub returns-clause-within : goal.returns-clause-within
returns-clause-within c = λ g source s guard sound. guard_runs g source s _ _ guard.ordered guard.shaped sound

pub returns-clause-steady : goal.returns-clause-steady
returns-clause-steady c = λ g source s guard sound. guard_runs g source s _ _ guard.ordered guard.shaped sound

pub returns-clause-moving : goal.returns-clause-moving
returns-clause-moving c = λ g source s radius guard sound. guard_runs g source s _ _ guard.ordered guard.shaped sound

pub returns-clause-dual : goal.returns-clause-dual
returns-clause-dual c = λ g source settings s guard sound. guard_runs g source settings _ _ guard.ordered guard.shaped sound
