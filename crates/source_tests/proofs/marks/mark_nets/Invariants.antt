-- The nets so far are marked.
use Rattle.std.proofs.Common.{◌≡◌, List, ◌++◌, length, map, take}
use Rattle.netlist_spec.specs.Netlist.{Name}
use Rattle.blif_read.specs.View.{name_at}
use Rattle.line_order.specs.Marks.{Marks}
use Rattle.source_tests.proofs.marks.mark_nets.Given as goal

abbrev pub invariant-loop-net : goal.invariant-loop-net
invariant-loop-net l =
    record {
      size : length l.marks ≡ length l.initial.marks;
      marked : (all listed : List Name) → Marks all l.initial.marks listed → Marks all l.marks (listed ++ map (name_at all) (take l.net-index l.nets));
    }
