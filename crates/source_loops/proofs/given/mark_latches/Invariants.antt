-- The latches so far are marked.
use Rattle.std.proofs.Common.{◌≡◌, List, ◌++◌, length, take}
use Rattle.std.specs.List.{flat_map}
use Rattle.netlist_spec.specs.Netlist.{Name}
use Rattle.blif_read.specs.declared.file.Located.{Located}
use Rattle.blif_read.specs.View.{statement_of}
use Rattle.line_order.specs.Marks.{Marks, latch_output_of}
use Rattle.source_loops.proofs.given.mark_latches.Given as goal

abbrev pub invariant-loop-s : goal.invariant-loop-s
invariant-loop-s l =
    record {
      size : length l.marks ≡ length l.initial.marks;
      marked : (all listed : List Name) → Marks all l.initial.marks listed → Marks all l.marks (listed ++ flat_map (λ (s : Located). latch_output_of (statement_of all s.what)) (take l.s-index l.statements));
    }
