use Rattle.std.proofs.Common.{◌≡◌, ◌+◌, ◌-◌, ◌++◌, ◌∷◌, [], sym, ◌∙◌, ap, ℕ, length, arith}
use Rattle.std.specs.List.{range_with_len}
use Rattle.std.proofs.lemmas.List.{length-map}
use Rattle.std.proofs.lemmas.List.FromFn.{length-range_with_len}
use Rattle.gate_net.specs.Gate.{net_number}
use Rattle.guard_net.proofs.Lists.{number_pushed}
use Rattle.guard_net.proofs.rails.check_run.Goals as goal

pub push-requires : goal.push-requires
push-requires c =
    let long : length c.loop-n.nets.items ≡ c.loop-n.n - c.args.first = sym (length-map c.loop-n.nets.items net_number) ∙ (ap length c.loop-n.invariant ∙ length-range_with_len c.args.first (c.loop-n.n - c.args.first)) in
    (omega arith, omega (arith, long, c.requires.room))

pub loop-n-preserved : goal.loop-n-preserved
loop-n-preserved c =
    let n = c.loop-n.n in
    let least = c.loop-n.auto.n in
    let at : n ≡ c.args.first + (n - c.args.first) = omega arith in
    number_pushed c.args.first (n - c.args.first) c.loop-n.nets.items c.push.new.self.items c.loop-n.invariant
    (c.push.ensures.items ∙ ap (λ (k : ℕ). c.loop-n.nets.items ++ record { 0 = k } ∷ []) at)
    ∙ ap (range_with_len c.args.first) (let e : n - c.args.first + 1 ≡ n + 1 - c.args.first = omega arith in e)
