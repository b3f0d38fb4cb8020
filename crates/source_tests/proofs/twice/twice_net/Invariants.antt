-- The declarations so far declare and drive each net once, and it is marked.
use Rattle.std.proofs.Common.{◌≡◌, map, take, drop}
use Rattle.netlist_spec.specs.FileOrder.{first_answer}
use Rattle.netlist_spec.specs.SoundFaults.{twice_at, twice_in}
use Rattle.blif_read.specs.View.{model_of}
use Rattle.line_order.specs.Merge.{item_at}
use Rattle.source_nets.specs.Ports.{source_file, source_library}
use Rattle.source_tests.specs.Seen.{AreSeen}
use Rattle.source_tests.proofs.twice.twice_net.Given as goal

abbrev pub invariant-loop-place : goal.invariant-loop-place
invariant-loop-place l =
    record {
      seen : AreSeen (source_file l.source) (source_library l.source) (model_of l.m) (map (item_at (model_of l.m)) (take l.place-index l.place-items)) l.seen;
      none : first_answer (λ earlier i. twice_at (source_file l.source) (source_library l.source) earlier i.what)
          (map (item_at (model_of l.m)) (take l.place-index l.place-items))
          (map (item_at (model_of l.m)) (drop l.place-index l.place-items))
          ≡ twice_in (source_file l.source) (source_library l.source) (model_of l.m);
    }
