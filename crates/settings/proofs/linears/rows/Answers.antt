use Rattle.std.proofs.Common.{sym, arith}
use Rattle.toml.specs.View.{view}
use Rattle.settings.specs.Library.{number_at}
use Rattle.settings.proofs.Gives.{values_none, values_more, values_all}
use Rattle.settings.proofs.Layers.{no_number, some_number}
use Rattle.settings.proofs.linears.rows.Goals as goal

pub returns-in-None : goal.returns-in-None
returns-in-None c =
    sym (values_none (number_at c.args.width) c.args.values.now c.loop-value.value-index c.value-item.result (omega arith) c.value-item.is (no_number c.args.width (view c.value-item.result) c.in-None.ensures.bits))

pub loop-value-preserved : goal.loop-value-preserved
loop-value-preserved c =
    rw c.in_ok-push-in-Some.ensures.items (
    values_more (number_at c.args.width) c.args.values.now c.loop-value.value-index c.value-item.result c.loop-value.rows.items c.in-Some.row (omega arith) c.value-item.is c.loop-value.invariant
    (some_number c.args.width (view c.value-item.result) c.in-Some.row c.in-Some.ensures.within c.in-Some.ensures.bits)
    )

pub returns : goal.returns
returns c = sym (values_all (number_at c.args.width) c.args.values.now c.loop-value.value-index c.loop-value.rows.items (omega arith) c.loop-value.invariant)
