use Rattle.std.proofs.Common.{◌∙◌, sym, ap, subst, List, [], map, option_map, All}
use Rattle.netlist_spec.specs.FileOrder.{Item, first_answer}
use Rattle.netlist_spec.specs.SoundFaults.{twice_at}
use Rattle.blif_read.specs.View.{model_of, name_at}
use Rattle.line_order.specs.declared.merge.Place.TheVariants.{Input}
use Rattle.line_order.specs.Merge.{IsPlace, item_at}
use Rattle.source_nets.specs.Ports.{source_file, source_library}
use Rattle.source_tests.specs.Seen.{AreSeen}
use Rattle.source_tests.proofs.FirstLemmas.{next_item, this_item, no_item}
use Rattle.source_tests.proofs.NetLemmas.{map_more}
use Rattle.source_tests.proofs.twice.twice_net.Goals as goal

pub loop-place-init : goal.loop-place-init
loop-place-init c =
    let F = source_file c.args.source.now in
    let L = source_library c.args.source.now in
    let M = model_of c.args.m.now in
    record {
      seen = c.in_ok-seen.ensures F L;
      none = ap (first_answer (λ (earlier : List Item) (i : Item). twice_at F L earlier i.what) []) (ap (map (item_at M)) c.deref-place-items.ensures.value ∙ c.in_ok-places.ensures.items);
    }

pub pass-requires-clause-place : goal.pass-requires-clause-place
pass-requires-clause-place c =
    subst (All (IsPlace c.args.m.now)) (sym c.deref-place-items.ensures.value) c.in_ok-places.ensures.within c.loop-place.place-index (Input 0) c.loop-place-test.true

pub pass-requires-clause-size : goal.pass-requires-clause-size
pass-requires-clause-size c =
    let seen = c.loop-place.invariant.seen in
    record { inputs = seen.inputs.each_name; outputs = seen.outputs.each_name; clocks = seen.clocks.each_name; driven = seen.driven.each_name }

pub returns-in-Some-clause-exact : goal.returns-in-Some-clause-exact
returns-in-Some-clause-exact c =
    let F = source_file c.args.source.now in
    let L = source_library c.args.source.now in
    let M = model_of c.args.m.now in
    sym (this_item (λ (earlier : List Item) (i : Item). twice_at F L earlier i.what) (item_at M) c.deref-place-items.result.now c.loop-place.place-index (Input 0) (name_at c.args.m.now.names c.in-Some.net) c.loop-place-test.true
    (sym (c.pass.ensures.name _ c.loop-place.invariant.seen) ∙ ap (option_map (name_at c.args.m.now.names)) c.in-Some.is))
    ∙ c.loop-place.invariant.none

pub loop-place-preserved : goal.loop-place-preserved
loop-place-preserved c =
    let F = source_file c.args.source.now in
    let L = source_library c.args.source.now in
    let M = model_of c.args.m.now in
    let places = c.deref-place-items.result.now in
    let i = c.loop-place.place-index in
    record {
      seen = subst (λ (passed : List Item). AreSeen F L M passed c.pass.new.self) (sym (map_more (item_at M) places i (Input 0) c.loop-place-test.true)) (c.in_default.ensures.seen _ c.loop-place.invariant.seen);
      none = next_item (λ (earlier : List Item) (i : Item). twice_at F L earlier i.what) (item_at M) places i (Input 0) c.loop-place-test.true
          (sym (c.pass.ensures.name _ c.loop-place.invariant.seen) ∙ ap (option_map (name_at c.args.m.now.names)) c.in_default.is)
          ∙ c.loop-place.invariant.none;
    }

pub returns-clause-exact : goal.returns-clause-exact
returns-clause-exact c =
    let F = source_file c.args.source.now in
    let L = source_library c.args.source.now in
    let M = model_of c.args.m.now in
    sym (no_item (λ (earlier : List Item) (i : Item). twice_at F L earlier i.what) (item_at M) c.deref-place-items.result.now c.loop-place.place-index c.loop-place-test.false) ∙ c.loop-place.invariant.none
