use Rattle.std.proofs.Common.{arith}
use Rattle.imp_text.specs.declared.names.NameId.{NameId}
use Rattle.source_loops.proofs.DriverLemmas.{puts_more}
use Rattle.source_loops.proofs.drivers.put_driver.Goals as goal

pub loop-id-preserved : goal.loop-id-preserved
loop-id-preserved c =
    let none : NameId = record { 0 = 0 } in
    puts_more c.args.nets.now c.args.place c.args.drivers.now c.loop-id.drivers c.loop-id.id-index none c.loop-id-test.true (omega (arith, c.requires c.loop-id.id-index none c.loop-id-test.true, c.loop-id.auto.drivers)) c.loop-id.invariant
