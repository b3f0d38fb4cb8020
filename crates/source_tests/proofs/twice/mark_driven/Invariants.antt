-- The nets so far are new, and are marked.
use Rattle.std.proofs.Common.{◌≡◌, List, ◌++◌, length, map, take, drop}
use Rattle.netlist_spec.specs.Netlist.{Name}
use Rattle.netlist_spec.specs.SoundFaults.{first_repeated}
use Rattle.blif_read.specs.View.{name_at}
use Rattle.line_order.specs.Marks.{Marks}
use Rattle.source_tests.proofs.twice.mark_driven.Given as goal

abbrev pub invariant-loop-net : goal.invariant-loop-net
invariant-loop-net l =
    record {
      size : length l.driven ≡ length l.initial.driven;
      marked : (all ds : List Name) → Marks all l.initial.driven ds → Marks all l.driven (ds ++ map (name_at all) (take l.net-index l.nets));
      new : (all ins cs ds : List Name) → Marks all l.inputs ins → Marks all l.clocks cs → Marks all l.initial.driven ds
          → first_repeated (ins ++ cs ++ (ds ++ map (name_at all) (take l.net-index l.nets))) (map (name_at all) (drop l.net-index l.nets)) ≡ first_repeated (ins ++ cs ++ ds) (map (name_at all) l.nets);
    }
