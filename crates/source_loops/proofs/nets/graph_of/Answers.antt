use Rattle.std.proofs.Common.{◌∙◌, sym, ap, ap₂, List, ℕ, [], ◌∷◌, ◌++◌, arith}
use Rattle.std.proofs.lemmas.List.{map_more}
use Rattle.std.proofs.lemmas.Option.{get_or_from_slice_get}
use Rattle.source_loops.specs.Nets.{numbers_of}
use Rattle.source_loops.proofs.nets.graph_of.Goals as goal

pub loop-i-preserved : goal.loop-i-preserved
loop-i-preserved c =
    let rows = c.args.rows.now in
    let i = c.loop-i.i in
    c.in_ok-push_row.ensures.ok
    ∙ ap₂ (λ (g : List (List ℕ)) (r : List ℕ). g ++ r ∷ []) c.loop-i.invariant
    (c.deref.ensures.value ∙ (c.in_ok-row.ensures ∙ ap numbers_of (sym (get_or_from_slice_get rows i c.row.result.now [] c.row.ensures))))
    ∙ sym (map_more numbers_of rows i [] (omega (arith, c.loop-i-test.true, c.len-i-end.ensures)))
