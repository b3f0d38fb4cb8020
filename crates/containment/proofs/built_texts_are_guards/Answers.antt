use Rattle.netlist_spec.specs.Runs.{IsSteady, IsWithin}
use Rattle.containment.proofs.Text.{within_is_steady_list}
use Rattle.containment.proofs.Guards.{steady_guard, shaped_guard, moving_guard, dual_guard}
use Rattle.containment.proofs.built_texts_are_guards.Goals as goal

pub returns-clause-within : goal.returns-clause-within
returns-clause-within c = λ text source s b. steady_guard text source s b (IsWithin s.bound) (within_is_steady_list s.bound)

pub returns-clause-steady : goal.returns-clause-steady
returns-clause-steady c = λ text source s b. steady_guard text source s b (IsSteady s.bound) (λ faults h. h)

pub returns-clause-shaped : goal.returns-clause-shaped
returns-clause-shaped c = shaped_guard

pub returns-clause-moving : goal.returns-clause-moving
returns-clause-moving c = moving_guard

pub returns-clause-dual : goal.returns-clause-dual
returns-clause-dual c = dual_guard
