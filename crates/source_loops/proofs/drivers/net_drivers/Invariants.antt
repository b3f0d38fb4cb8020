-- The nets have the places of the statements so far.
use Rattle.std.proofs.Common.{map, length}
use Rattle.netlist_spec.specs.Netlist.{Located}
use Rattle.netlist_spec.specs.Sound.{combines}
use Rattle.blif_read.specs.View.{model_of}
use Rattle.source_loops.specs.Nets.{numbers_of}
use Rattle.source_loops.proofs.DriverLemmas.{AreSoFar}
use Rattle.source_loops.proofs.drivers.net_drivers.Given as goal

abbrev pub invariant-loop-place : goal.invariant-loop-place
invariant-loop-place l =
    AreSoFar (map numbers_of l.survey.drives) (map (λ (s : Located). combines s.what) (model_of l.m).statements) (length l.m.names) (length l.m.statements.items) l.place l.drivers.items
