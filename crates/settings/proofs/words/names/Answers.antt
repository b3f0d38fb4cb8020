use Rattle.std.proofs.Common.{sym, ◌∙◌, arith}
use Rattle.guard_spec.specs.SettingsFile.{name_of}
use Rattle.settings.proofs.Gives.{values_none, values_more, values_all}
use Rattle.settings.proofs.words.names.Goals as goal

pub returns-in-None : goal.returns-in-None
returns-in-None c =
    sym (values_none name_of c.args.values.now c.loop-value.value-index c.value-item.result (omega arith) c.value-item.is (sym c.in_ok-name.ensures ∙ c.in-None.is))

pub loop-value-preserved : goal.loop-value-preserved
loop-value-preserved c =
    let here = sym c.in_ok-name.ensures ∙ c.in-Some.is in
    rw c.in_ok-push-in-Some.ensures.items (values_more name_of c.args.values.now c.loop-value.value-index c.value-item.result c.loop-value.names.items c.in-Some.name (omega arith) c.value-item.is c.loop-value.invariant here)

pub returns : goal.returns
returns c = sym (values_all name_of c.args.values.now c.loop-value.value-index c.loop-value.names.items (omega arith) c.loop-value.invariant)
