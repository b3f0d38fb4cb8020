use Rattle.std.proofs.Common.{sym, ◌∙◌, ap, false, set}
use Rattle.fault_sim.specs.declared.row.LatchCell.{LatchCell}
use Rattle.fault_sim.proofs.RowLemmas.{show_more}
use Rattle.fault_sim.proofs.row.put_stored.Goals as goal

pub loop-i-preserved : goal.loop-i-preserved
loop-i-preserved c =
    let none : LatchCell = record { q = record { 0 = 0 }; d = record { 0 = 0 }; init = false } in
    ap (set c.loop-i.row _) c.shown.ensures
    ∙ show_more c.args.forced.now c.args.row.now c.loop-i.row c.args.latches.now c.args.stored.now c.loop-i.i none c.loop-i-test.true (sym c.requires.bits) c.loop-i.invariant
