use Rattle.std.proofs.Common.{◌∙◌, arith}
use Rattle.toml.specs.View.{view}
use Rattle.settings.proofs.Arrays.{values_fit, values_misfit}
use Rattle.settings.proofs.tables.rows_of_value.Goals as goal

pub returns-then-len-ins : goal.returns-then-len-ins
returns-then-len-ins c =
    let values = c.in-Some.values.now in
    rw (values_fit (view c.args.value.now) values.items c.in-Some.ensures c.args.ins c.args.outs c.len.result (omega arith) (c.len.ensures ∙ values.ok.0) c.if-len-ins.true) (rw c.deref.ensures.value at c.rows.ensures)

pub returns-else-len-ins : goal.returns-else-len-ins
returns-else-len-ins c =
    let values = c.in-Some.values.now in
    values_misfit (view c.args.value.now) values.items c.in-Some.ensures c.args.ins c.args.outs c.len.result (omega arith) (c.len.ensures ∙ values.ok.0) c.if-len-ins.false
