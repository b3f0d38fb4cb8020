use Rattle.std.proofs.Common.{◌-◌, ◌^◌, sym, arith}
use Rattle.guard_spec.specs.SettingsFile.{whole_between}
use Rattle.settings.proofs.Gives.{values_none, values_more, values_all}
use Rattle.settings.proofs.tables.rows.Goals as goal

pub returns-in-None : goal.returns-in-None
returns-in-None c =
    sym (values_none (whole_between 0 (2 ^ c.args.outs - 1)) c.args.values.now c.loop-value.value-index c.value-item.result (omega arith) c.value-item.is (sym c.in-None.ensures))

pub loop-value-preserved : goal.loop-value-preserved
loop-value-preserved c =
    rw c.in_ok-push-in-Some.ensures.items (values_more (whole_between 0 (2 ^ c.args.outs - 1)) c.args.values.now c.loop-value.value-index c.value-item.result c.loop-value.rows.items c.in-Some.row (omega arith) c.value-item.is c.loop-value.invariant (sym c.in-Some.ensures))

pub returns : goal.returns
returns c = sym (values_all (whole_between 0 (2 ^ c.args.outs - 1)) c.args.values.now c.loop-value.value-index c.loop-value.rows.items (omega arith) c.loop-value.invariant)
