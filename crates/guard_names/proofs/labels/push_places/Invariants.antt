use Rattle.std.proofs.Common.{◌≡◌, ◌++◌, map}
use Rattle.std.specs.List.{range_with_len}
use Rattle.guard_names.specs.Labels.{kind_label}
use Rattle.guard_names.proofs.labels.push_places.Given as goal

abbrev pub invariant-loop-place : goal.invariant-loop-place
invariant-loop-place l = l.labels.items ≡ l.initial.labels.items ++ map (kind_label l.kind l.word) (range_with_len 0 l.place)
