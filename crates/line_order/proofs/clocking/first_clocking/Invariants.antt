-- No statement so far is a latch.
use Rattle.std.proofs.Common.{◌≡◌, drop, map, filter_map}
use Rattle.netlist_spec.specs.Models.{as_latch, latches_of}
use Rattle.blif_read.specs.View.{located_of, model_of}
use Rattle.line_order.proofs.clocking.first_clocking.Given as goal

abbrev pub invariant-loop-s : goal.invariant-loop-s
invariant-loop-s l =
    filter_map (λ s. as_latch s.what) (map (located_of l.m.names) (drop l.s-index l.s-items)) ≡ latches_of (model_of l.m)
