use Rattle.std.proofs.Common.{◌≡◌, ◌+◌, ◌++◌, ◌∷◌, [], ◌∙◌, ap, ℕ, arith}
use Rattle.std.specs.List.{range_with_len}
use Rattle.guard_net.proofs.Lists.{number_pushed}
use Rattle.correction_net.proofs.stand_in.nets_below.Goals as goal

pub loop-n-preserved : goal.loop-n-preserved
loop-n-preserved c =
    let n = c.loop-n.n in
    number_pushed 0 n c.loop-n.nets.items c.push.new.self.items c.loop-n.invariant
    (c.in_ok-push.ensures.items ∙ ap (λ (k : ℕ). c.loop-n.nets.items ++ record { 0 = k } ∷ []) (let e : n ≡ 0 + n = omega arith in e))

pub returns : goal.returns
returns c =
    let ended : c.loop-n.n ≡ c.args.count = let a = c.loop-n-test.false in let b = c.loop-n.auto.n-end in omega (arith, a, b) in
    c.loop-n.invariant ∙ ap (range_with_len 0) ended
