use Rattle.std.proofs.Common.{sym, ◌∙◌}
use Rattle.netlist_spec.specs.Models.{output_nets}
use Rattle.independence_audit.proofs.PassLemmas.{output_kept, read_merged}
use Rattle.independence_audit.proofs.pass.pass_read.Goals as goal

pub returns-then-not-has : goal.returns-then-not-has
returns-then-not-has c = λ m later g done marks b k.
    read_merged m later g done c.args.table.now c.args.id c.requires.net k c.args.bits c.merged.result _ (sym (c.has.ensures m.names (output_nets m) marks) ∙ c.if-not-has.true) b c.merged.ensures

pub returns-else-not-has : goal.returns-else-not-has
returns-else-not-has c = λ m later g done marks b k. output_kept m later g done c.args.table.now c.args.id c.requires.net k (sym (c.has.ensures m.names (output_nets m) marks) ∙ c.if-not-has.false)
