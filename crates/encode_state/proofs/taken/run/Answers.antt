use Rattle.std.proofs.Common.{◌≡◌, sym, ◌∙◌, ap, arith, ◌+◌, ◌-◌, ◌∷◌, [], ◌++◌}
use Rattle.std.specs.List.{range_with_len}
use Rattle.encode_state.proofs.TakenLemmas.{range_split}
use Rattle.encode_state.proofs.taken.run.Goals as goal

pub loop-n-preserved : goal.loop-n-preserved
loop-n-preserved c =
    let first = c.args.first in
    let n = c.loop-n.n in
    let least = c.loop-n.auto.n in
    rw c.in_ok-push.ensures.items
    (ap (λ ns. ns ++ n ∷ []) c.loop-n.invariant ∙ sym (range_split (n - first) 1 (n + 1 - first) first n (omega arith) (omega arith)))
