use Rattle.imp_text.specs.declared.names.NameId.{NameId}
use Rattle.blif_write.proofs.NumberLemmas.{ports-step}
use Rattle.blif_write.proofs.numbers.ports_from.Goals as goal

pub loop-i-preserved : goal.loop-i-preserved
loop-i-preserved c =
    let none : NameId = record { 0 = 0 } in
    rw (ports-step c.args.first c.args.numbers.now c.loop-i.i none c.loop-i-test.true, ← c.loop-i.invariant) c.in_ok-push.ensures.items
