-- The nets that stand for ports among the words so far.
use Rattle.std.proofs.Common.{◌≡◌, take}
use Rattle.source_nets.specs.Ports.{actual_ids, ports_of, source_file, source_library}
use Rattle.source_nets.specs.Survey.{placed_at}
use Rattle.source_nets.proofs.statement.actuals.Given as goal

abbrev pub invariant-loop-bind : goal.invariant-loop-bind
invariant-loop-bind l =
    l.ids.items ≡ actual_ids (ports_of l.kind (placed_at (source_file l.source) (source_library l.source) l.meaning)) (take l.bind-index l.binds)
