use Rattle.std.proofs.Common.{◌≡◌, ◌++◌, ◌∷◌, [], sym, ◌∙◌, ap, ℕ, List, map, replicate, append-nil, append_assoc, arith}
use Rattle.std.proofs.lemmas.List.{replicate_more}
use Rattle.plain_size.specs.Edges.{ends_in}
use Rattle.plain_size.proofs.cones.edges.Goals as goal

pub loop-init : goal.loop-init
loop-init c = c.in_ok-graph.ensures ∙ sym (append-nil (map (ends_in c.args.nodes.now) c.args.reads.now))

pub loop-preserved : goal.loop-preserved
loop-preserved c =
    let rows = map (ends_in c.args.nodes.now) c.args.reads.now in
    let k = c.loop.counter in
    c.in_ok-push_row.ensures.ok
    ∙ (ap (λ (g : List (List ℕ)). g ++ [] ∷ []) c.loop.invariant
    ∙ (append_assoc rows (replicate k []) ([] ∷ []) ∙ ap (λ (g : List (List ℕ)). rows ++ g) (replicate_more k [])))

pub returns : goal.returns
returns c =
    let end : c.loop.counter ≡ c.args.words = (let e = c.loop-test.false in let a = c.loop.auto.counter-end in omega arith) in
    c.loop.invariant ∙ ap (λ (k : ℕ). map (ends_in c.args.nodes.now) c.args.reads.now ++ replicate k []) end
