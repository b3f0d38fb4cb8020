use Rattle.imp_text.specs.declared.names.NameId.{NameId}
use Rattle.source_machine.proofs.LeafLemmas.{numbered_next}
use Rattle.source_machine.proofs.leaves.number_nets.Goals as goal

pub loop-i-preserved : goal.loop-i-preserved
loop-i-preserved c =
    let none : NameId = record { 0 = 0 } in
    numbered_next c.loop-i.table c.args.table.now c.args.first c.args.ids.now c.loop-i.i none c.loop-i-test.true c.loop-i.invariant
