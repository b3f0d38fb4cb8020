use Rattle.std.proofs.Common.{◌∙◌, sym, ap, subst, [], map, option_map, All}
use Rattle.netlist_spec.specs.FileOrder.{first_answer}
use Rattle.netlist_spec.specs.Sound.{driven_nets}
use Rattle.blif_read.specs.View.{model_of, name_at}
use Rattle.line_order.specs.declared.merge.Place.TheVariants.{Input}
use Rattle.line_order.specs.Merge.{IsPlace, item_at}
use Rattle.source_nets.specs.Ports.{source_file, source_library}
use Rattle.source_tests.proofs.FirstLemmas.{next_item, this_item, no_item}
use Rattle.source_tests.proofs.ItemLemmas.{undriven_answer}
use Rattle.source_tests.proofs.undriven.undriven_net.Goals as goal

pub loop-place-init : goal.loop-place-init
loop-place-init c =
    let M = model_of c.args.m.now in
    ap (first_answer (undriven_answer (source_file c.args.source.now) (source_library c.args.source.now) M) []) (ap (map (item_at M)) c.deref-place-items.ensures.value ∙ c.in_ok-places.ensures.items)

pub undriven_at-requires-clause-size : goal.undriven_at-requires-clause-size
undriven_at-requires-clause-size c = c.in_ok-driven.ensures.each_name

pub undriven_at-requires-clause-place : goal.undriven_at-requires-clause-place
undriven_at-requires-clause-place c =
    subst (All (IsPlace c.args.m.now)) (sym c.deref-place-items.ensures.value) c.in_ok-places.ensures.within c.loop-place.place-index (Input 0) c.loop-place-test.true

pub returns-in-Some-clause-exact : goal.returns-in-Some-clause-exact
returns-in-Some-clause-exact c =
    let F = source_file c.args.source.now in
    let L = source_library c.args.source.now in
    let M = model_of c.args.m.now in
    let i = c.loop-place.place-index in
    sym (this_item (undriven_answer F L M) (item_at M) c.deref-place-items.result.now i (Input 0) (name_at c.args.m.now.names c.in-Some.net) c.loop-place-test.true
    (sym (c.undriven_at.ensures.name (driven_nets F L M) c.in_ok-driven.ensures) ∙ ap (option_map (name_at c.args.m.now.names)) c.in-Some.is))
    ∙ c.loop-place.invariant

pub loop-place-preserved : goal.loop-place-preserved
loop-place-preserved c =
    let F = source_file c.args.source.now in
    let L = source_library c.args.source.now in
    let M = model_of c.args.m.now in
    let i = c.loop-place.place-index in
    next_item (undriven_answer F L M) (item_at M) c.deref-place-items.result.now i (Input 0) c.loop-place-test.true
    (sym (c.undriven_at.ensures.name (driven_nets F L M) c.in_ok-driven.ensures) ∙ ap (option_map (name_at c.args.m.now.names)) c.in_default.is)
    ∙ c.loop-place.invariant

pub returns-clause-exact : goal.returns-clause-exact
returns-clause-exact c =
    let F = source_file c.args.source.now in
    let L = source_library c.args.source.now in
    let M = model_of c.args.m.now in
    sym (no_item (undriven_answer F L M) (item_at M) c.deref-place-items.result.now c.loop-place.place-index c.loop-place-test.false) ∙ c.loop-place.invariant
