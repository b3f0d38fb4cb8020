use Rattle.std.proofs.Common.{◌≡◌, ◌+◌, ◌++◌, ◌∷◌, [], sym, ◌∙◌, ap, map, arith, List, ℕ}
use Rattle.std.specs.List.{range_with_len}
use Rattle.std.proofs.lemmas.List.{append_assoc}
use Rattle.std.proofs.lemmas.List.FromFn.{map-range_with_len_more}
use Rattle.named_netlist.specs.declared.label.Label.{Label}
use Rattle.named_netlist.specs.declared.label.Label.TheVariants.{Inner}
use Rattle.elaborated.proofs.named.push_inner.Goals as goal

one_more : (before labels more : List Label) (i : ℕ) → labels ≡ before ++ map (λ k. Inner k) (range_with_len 0 i) → more ≡ labels ++ Inner i ∷ [] → more ≡ before ++ map (λ k. Inner k) (range_with_len 0 (i + 1))
one_more before labels more i are pushed =
    let next : map (λ k. Inner k) (range_with_len 0 (i + 1)) ≡ map (λ k. Inner k) (range_with_len 0 i) ++ Inner i ∷ [] = map-range_with_len_more (λ k. Inner k) 0 i i (omega arith) in
    pushed ∙ ap (λ l. l ++ Inner i ∷ []) are ∙ append_assoc before (map (λ k. Inner k) (range_with_len 0 i)) (Inner i ∷ []) ∙ ap (λ l. before ++ l) (sym next)

pub loop-i-preserved : goal.loop-i-preserved
loop-i-preserved c = one_more c.args.labels.now.items c.loop-i.labels.items c.push.new.self.items c.loop-i.i c.loop-i.invariant c.in_ok-push.ensures.items
