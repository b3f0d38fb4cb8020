use Rattle.netlist_spec.specs.Runs.{IsSteady}
use Rattle.netlist_spec.specs.Written.{file_of}
use Rattle.containment.proofs.Guards.{steady_guard}
use Rattle.guard_laws.proofs.Texts.{text_is_built, guarding_text}
use Rattle.guard_laws.proofs.named_guards_are_built_texts.Goals as goal

pub returns-clause-built : goal.returns-clause-built
returns-clause-built c = text_is_built

pub returns-clause-guard : goal.returns-clause-guard
returns-clause-guard c = λ source s n from. steady_guard (file_of n) source s (text_is_built source s s.bound n from) (IsSteady s.bound) (λ faults h. h)

pub returns-clause-text : goal.returns-clause-text
returns-clause-text c = guarding_text
