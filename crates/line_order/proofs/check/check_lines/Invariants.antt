-- The lines so far are not at fault, and what they declare is marked.
use Rattle.std.proofs.Common.{◌≡◌, List, [], length}
use Rattle.netlist_spec.specs.FileOrder.{Item, items_of, first_answer}
use Rattle.netlist_spec.specs.Ordered.{item_fault}
use Rattle.blif_read.specs.View.{model_of}
use Rattle.line_order.specs.Merge.{items_left}
use Rattle.line_order.specs.Tables.{AreTables}
use Rattle.line_order.proofs.check.check_lines.Given as goal

abbrev pub invariant-loop-place : goal.invariant-loop-place
invariant-loop-place l =
    (earlier : List Item) × (AreTables (model_of l.m) earlier l.tables
    × (first_answer (item_fault (model_of l.m)) [] (items_of (model_of l.m)) ≡ first_answer (item_fault (model_of l.m)) earlier (items_left (model_of l.m) l.passed)))

abbrev pub decreases-loop-place : goal.decreases-loop-place
decreases-loop-place l = length (items_left (model_of l.m) l.passed)
