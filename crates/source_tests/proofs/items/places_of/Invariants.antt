-- The items so far, and those that are left, are all items.
use Rattle.std.proofs.Common.{◌≡◌, ◌++◌, length, map}
use Rattle.std.specs.List.{AllByRecursion}
use Rattle.netlist_spec.specs.FileOrder.{items_of}
use Rattle.blif_read.specs.View.{model_of}
use Rattle.line_order.specs.Merge.{IsPlace, item_at, items_left}
use Rattle.source_tests.proofs.items.places_of.Given as goal

abbrev pub invariant-loop-place : goal.invariant-loop-place
invariant-loop-place l =
    record {
      items : map (item_at (model_of l.m)) l.places.items ++ items_left (model_of l.m) l.passed ≡ items_of (model_of l.m);
      within : AllByRecursion (IsPlace l.m) l.places.items;
    }

abbrev pub decreases-loop-place : goal.decreases-loop-place
decreases-loop-place l = length (items_left (model_of l.m) l.passed)
