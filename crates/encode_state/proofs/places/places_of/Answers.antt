use Rattle.std.proofs.Common.{◌≡◌, sym, ◌∙◌, ap, subst, arith, ◌+◌, ◌<◌, ◌++◌, ◌∷◌, [], List, Option, Some, ℕ, length, map, take, get_or, set}
use Rattle.std.proofs.lemmas.List.{length-map, length-take, take_more}
use Rattle.netlist_spec.specs.Netlist.{Name}
use Rattle.imp_text.specs.declared.names.NameId.{NameId}
use Rattle.blif_read.specs.View.{name_at}
use Rattle.encode_state.specs.Places.{ArePlaces}
use Rattle.encode_state.proofs.MarkLemmas.{named_at}
use Rattle.encode_state.proofs.PlaceLemmas.{place_set}
use Rattle.encode_state.proofs.places.places_of.Goals as goal

pub loop-i-preserved : goal.loop-i-preserved
loop-i-preserved c =
    let names = c.args.names.now in
    let nets = map (name_at names) c.args.nets.now in
    let i = c.loop-i.i in
    let none : NameId = record { 0 = 0 } in
    let id = get_or c.args.nets.now i none in
    let test = c.loop-i-test.true in
    let size = length-map c.args.nets.now (name_at names) in
    let inside : i < length nets = omega arith in
    let count : length (take i nets) ≡ i = (let l = length-take i nets in omega arith) in
    let all : take (i + 1) nets ≡ take i nets ++ name_at names id ∷ [] = take_more nets i [] inside ∙ ap (λ n. take i nets ++ n ∷ []) (named_at names c.args.nets.now i none test) in
    let here = place_set names (take i nets) c.loop-i.places.items id c.len.ensures.are_names.distinct (c.requires.ids i none test) c.loop-i.invariant in
    subst (λ (ns : List Name). ArePlaces names ns (set c.loop-i.places.items id.0 (Some i))) (sym all)
    (subst (λ (k : ℕ). ArePlaces names (take i nets ++ name_at names id ∷ []) (set c.loop-i.places.items id.0 (Some k))) count here)
