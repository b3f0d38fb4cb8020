-- The nets of the rows so far are marked.
use Rattle.std.proofs.Common.{◌≡◌, List, ◌++◌, length, map, take}
use Rattle.std.specs.List.{flat_map}
use Rattle.netlist_spec.specs.Netlist.{Name}
use Rattle.blif_read.specs.View.{name_at}
use Rattle.line_order.specs.Marks.{Marks}
use Rattle.source_tests.proofs.marks.mark_rows.Given as goal

abbrev pub invariant-loop-i : goal.invariant-loop-i
invariant-loop-i l =
    record {
      size : length l.marks ≡ length l.initial.marks;
      marked : (all listed : List Name) → Marks all l.initial.marks listed → Marks all l.marks (listed ++ flat_map (map (name_at all)) (take l.i l.rows));
    }
