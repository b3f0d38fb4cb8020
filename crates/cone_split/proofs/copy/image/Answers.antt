use Rattle.std.proofs.Common.{◌∙◌, ap, inr, refl, Some, arith}
use Rattle.std.proofs.lemmas.List.{length-map}
use Rattle.std.proofs.lemmas.List.Sorted.{searched}
use Rattle.std.proofs.lemmas.Result.{MatchResult-at_ok}
use Rattle.std.proofs.lemmas.Option.{slice_get-get_or}
use Rattle.gate_net.specs.Gate.{net_number}
use Rattle.cone_split.proofs.Cells.{rises_weakly, found}
use Rattle.cone_split.proofs.copy.image.Goals as goal

pub unwrap-place-requires : goal.unwrap-place-requires
unwrap-place-requires c =
    found c.args.cells.now c.args.n.0 c.binary_search.result (c.requires.net c.if-n-leaf.false)
    (searched c.args.cells.now c.args.n.0 c.binary_search.result c.binary_search.ensures.position (λ i j a b. rises_weakly 0 c.args.cells.now i j c.requires.rise a b))

pub returns : goal.returns
returns c =
    let place = c.unwrap-place.result in
    let cells = c.args.cells.now in
    let at = MatchResult-at_ok _ _ place c.unwrap-place.ensures (searched cells c.args.n.0 c.binary_search.result c.binary_search.ensures.position (λ i j a b. rises_weakly 0 cells i j c.requires.rise a b)) in
    let long = length-map c.args.leaf.now net_number in
    inr (let h = c.if-n-leaf.false in omega arith, (place, slice_get-get_or cells place 0 at.0 ∙ ap (λ m. Some m) at.1, refl))
