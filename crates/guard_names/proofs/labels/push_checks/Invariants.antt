use Rattle.std.proofs.Common.{◌≡◌, ◌++◌}
use Rattle.guard_names.specs.Labels.{check_labels}
use Rattle.guard_names.proofs.labels.push_checks.Given as goal

abbrev pub invariant-loop-word : goal.invariant-loop-word
invariant-loop-word l = l.labels.items ≡ l.initial.labels.items ++ check_labels l.columns l.word
