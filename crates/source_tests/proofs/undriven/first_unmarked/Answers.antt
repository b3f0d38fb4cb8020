use Rattle.std.proofs.Common.{◌∙◌, sym, ap, not}
use Rattle.netlist_spec.specs.Netlist.{stands_in}
use Rattle.imp_text.specs.declared.names.NameId.{NameId}
use Rattle.blif_read.specs.View.{name_at}
use Rattle.source_tests.proofs.FirstLemmas.{next_net, this_net, no_net}
use Rattle.source_tests.proofs.undriven.first_unmarked.Goals as goal

pub loop-net-preserved : goal.loop-net-preserved
loop-net-preserved c = λ all listed m.
    let none : NameId = record { 0 = 0 } in
    next_net (λ n. not (stands_in n listed)) (name_at all) c.args.nets.now c.loop-net.net-index none c.loop-net-test.true (ap not (sym (c.has.ensures all listed m) ∙ c.if-not-has.false))
    ∙ c.loop-net.invariant all listed m

pub returns-then-not-has-clause-name : goal.returns-then-not-has-clause-name
returns-then-not-has-clause-name c = λ all listed m.
    let none : NameId = record { 0 = 0 } in
    sym (this_net (λ n. not (stands_in n listed)) (name_at all) c.args.nets.now c.loop-net.net-index none c.loop-net-test.true (ap not (sym (c.has.ensures all listed m) ∙ c.if-not-has.true)))
    ∙ c.loop-net.invariant all listed m

pub returns-clause-name : goal.returns-clause-name
returns-clause-name c = λ all listed m.
    sym (no_net (λ n. not (stands_in n listed)) (name_at all) c.args.nets.now c.loop-net.net-index c.loop-net-test.false) ∙ c.loop-net.invariant all listed m
