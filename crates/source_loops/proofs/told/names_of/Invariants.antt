-- The names so far are told.
use Rattle.std.proofs.Common.{◌≡◌, map, take}
use Rattle.source_loops.specs.Nets.{name_of}
use Rattle.source_loops.proofs.told.names_of.Given as goal

abbrev pub invariant-loop-net : goal.invariant-loop-net
invariant-loop-net l = l.names ≡ map (name_of l.all) (take l.net-index l.nets)
