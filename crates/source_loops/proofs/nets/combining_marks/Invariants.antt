-- The statements so far have their marks.
use Rattle.std.proofs.Common.{◌≡◌, map, take}
use Rattle.netlist_spec.specs.Sound.{combines}
use Rattle.blif_read.specs.declared.file.Located.{Located}
use Rattle.blif_read.specs.View.{statement_of}
use Rattle.source_loops.proofs.nets.combining_marks.Given as goal

abbrev pub invariant-loop-s : goal.invariant-loop-s
invariant-loop-s l = l.marks.items ≡ map (λ (s : Located). combines (statement_of l.m.names s.what)) (take l.s-index l.s-items)
