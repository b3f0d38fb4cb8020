use Rattle.std.proofs.Common.{sym}
use Rattle.imp_text.specs.declared.names.NameId.{NameId}
use Rattle.fault_sim.proofs.RowLemmas.{put_more}
use Rattle.fault_sim.proofs.row.put_inputs.Goals as goal

pub loop-i-preserved : goal.loop-i-preserved
loop-i-preserved c =
    let none : NameId = record { 0 = 0 } in
    put_more c.args.row.now c.loop-i.row c.args.inputs.now c.args.x.now c.loop-i.i none c.loop-i-test.true (sym c.requires.bits) c.loop-i.invariant
