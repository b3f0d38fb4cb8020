-- The declarations so far read driven nets alone.
use Rattle.std.proofs.Common.{◌≡◌, map, take, drop}
use Rattle.netlist_spec.specs.FileOrder.{first_answer}
use Rattle.netlist_spec.specs.SoundFaults.{undriven_in}
use Rattle.blif_read.specs.View.{model_of}
use Rattle.line_order.specs.Merge.{item_at}
use Rattle.source_nets.specs.Ports.{source_file, source_library}
use Rattle.source_tests.proofs.ItemLemmas.{undriven_answer}
use Rattle.source_tests.proofs.undriven.undriven_net.Given as goal

abbrev pub invariant-loop-place : goal.invariant-loop-place
invariant-loop-place l =
    first_answer (undriven_answer (source_file l.source) (source_library l.source) (model_of l.m))
    (map (item_at (model_of l.m)) (take l.place-index l.place-items))
    (map (item_at (model_of l.m)) (drop l.place-index l.place-items))
    ≡ undriven_in (source_file l.source) (source_library l.source) (model_of l.m)
