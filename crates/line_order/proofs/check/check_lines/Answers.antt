use Rattle.std.proofs.Common.{◌∙◌, ◌++◌, ◌∷◌, [], sym, ap}
use Rattle.netlist_spec.specs.FileOrder.{first_answer}
use Rattle.netlist_spec.specs.Ordered.{item_fault}
use Rattle.blif_read.specs.View.{model_of}
use Rattle.line_order.specs.Faults.{told_fault}
use Rattle.line_order.specs.Merge.{item_at, items_left}
use Rattle.line_order.proofs.MergeLemmas.{all_left}
use Rattle.line_order.proofs.TableLemmas.{goes_on}
use Rattle.line_order.proofs.check.check_lines.Goals as goal

pub loop-place-init : goal.loop-place-init
loop-place-init c =
    let M = model_of c.args.m.now in
    ([], (c.in_ok-tables.ensures, sym (ap (first_answer (item_fault M) []) (all_left M))))

pub loop-place-preserved : goal.loop-place-preserved
loop-place-preserved c =
    let M = model_of c.args.m.now in
    let earlier = c.loop-place.invariant.0 in
    let t = c.loop-place.invariant.1.0 in
    let item = item_at M c.in-Some.place in (
      earlier ++ item ∷ [],
      (
        c.pass.ensures earlier t,
        c.loop-place.invariant.1.1
            ∙ goes_on (item_fault M) earlier (items_left M c.loop-place.passed) (items_left M c.next_place.new.passed) item c.in-Some.ensures.some (sym (c.fault_at.ensures earlier t) ∙ ap told_fault c.in_default-fault_at.is),
      ),
    )
