use Rattle.std.proofs.Common.{◌∙◌, ◌++◌, ◌∷◌, [], List, sym, ap, subst, map, append_assoc}
use Rattle.std.specs.List.{AllByRecursion}
use Rattle.std.proofs.lemmas.List.{map-append}
use Rattle.netlist_spec.specs.FileOrder.{Item}
use Rattle.netlist_spec.proofs.OneValue.{All_append}
use Rattle.blif_read.specs.View.{model_of}
use Rattle.line_order.specs.declared.merge.Place.{Place}
use Rattle.line_order.specs.declared.merge.Passed.{Passed}
use Rattle.line_order.specs.Merge.{IsPlace, item_at, items_left}
use Rattle.line_order.proofs.MergeLemmas.{all_left}
use Rattle.source_tests.proofs.items.places_of.Goals as goal

pub loop-place-init : goal.loop-place-init
loop-place-init c =
    let M = model_of c.args.m.now in
    let none : Passed = record { inputs = 0; outputs = 0; clocks = 0; statements = 0 } in
    record {
      items = ap (λ (xs : List Place). map (item_at M) xs ++ items_left M none) c.new-places.ensures.items ∙ all_left M;
      within = subst (AllByRecursion (IsPlace c.args.m.now)) (sym c.new-places.ensures.items) tt;
    }

pub loop-place-preserved : goal.loop-place-preserved
loop-place-preserved c =
    let M = model_of c.args.m.now in
    let ps = c.loop-place.places.items in
    let place = c.in-Some.place in
    let after = items_left M c.next_place.new.passed in
    record {
      items = ap (λ (xs : List Place). map (item_at M) xs ++ after) c.in_ok-push.ensures.items
          ∙ ap (λ (xs : List Item). xs ++ after) (map-append (item_at M) ps (place ∷ []))
          ∙ append_assoc (map (item_at M) ps) (item_at M place ∷ []) after
          ∙ ap (λ (xs : List Item). map (item_at M) ps ++ xs) (sym c.in-Some.ensures.some)
          ∙ c.loop-place.invariant.items;
      within = subst (AllByRecursion (IsPlace c.args.m.now)) (sym c.in_ok-push.ensures.items) (All_append (IsPlace c.args.m.now) ps (place ∷ []) c.loop-place.invariant.within (c.in-Some.ensures.place, tt));
    }
