use Rattle.std.proofs.Common.{◌≡◌, ◌++◌, ◌∷◌, [], sym, ◌∙◌, ap, ap₂, ℕ, List, get_or}
use Rattle.std.proofs.lemmas.List.{map_more}
use Rattle.std.proofs.lemmas.Option.{slice_get_within, get_or_from_slice_get}
use Rattle.plain_size.specs.Edges.{ends_in}
use Rattle.plain_size.proofs.cones.statement_edges.Goals as goal

pub loop-j-preserved : goal.loop-j-preserved
loop-j-preserved c =
    let reads = c.args.reads.now in
    let j = c.loop-j.j in
    let row : get_or reads j [] ≡ c.row.result.now = get_or_from_slice_get reads j c.row.result.now [] c.row.ensures in
    let ends : c.deref.result.now ≡ ends_in c.args.nodes.now (get_or reads j []) = c.deref.ensures.value ∙ (c.in_ok-ends.ensures ∙ ap (ends_in c.args.nodes.now) (sym row)) in
    c.in_ok-push_row.ensures.ok
    ∙ (ap₂ (λ (g : List (List ℕ)) (e : List ℕ). g ++ e ∷ []) c.loop-j.invariant ends ∙ sym (map_more (ends_in c.args.nodes.now) reads j [] (slice_get_within reads j c.row.result.now c.row.ensures)))
