use Rattle.std.proofs.Common.{◌≡◌, ◌++◌, drop}
use Rattle.encode_state.specs.Types.{words_in}
use Rattle.guard_names.specs.Labels.{places_from}
use Rattle.guard_names.proofs.labels.push_state.Given as goal

abbrev pub invariant-loop-i : goal.invariant-loop-i
invariant-loop-i l = l.initial.labels.items ++ places_from l.kind l.columns 0 (words_in l.words) ≡ l.labels.items ++ places_from l.kind l.columns l.i (words_in (drop l.i l.words))
