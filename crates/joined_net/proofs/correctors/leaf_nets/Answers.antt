use Rattle.std.proofs.Common.{◌≡◌, ◌+◌, ◌++◌, ◌∷◌, [], ◌∙◌, ap, ℕ, List, map, arith}
use Rattle.std.specs.List.{range_with_len}
use Rattle.std.proofs.lemmas.List.{map-append}
use Rattle.gate_net.specs.Gate.{net_number}
use Rattle.guard_net.proofs.Lists.{number_pushed}
use Rattle.joined_net.proofs.correctors.leaf_nets.Goals as goal

pub loop-i-preserved : goal.loop-i-preserved
loop-i-preserved c =
    let i = c.loop-i.i in
    number_pushed 0 i c.loop-i.leaf.items c.push.new.self.items c.loop-i.invariant
    (c.in_ok-push.ensures.items ∙ ap (λ (k : ℕ). c.loop-i.leaf.items ++ record { 0 = k } ∷ []) (let e : i ≡ 0 + i = omega arith in e))

pub returns : goal.returns
returns c =
    let ended : c.loop-i.i ≡ c.args.inputs = let a = c.loop-i-test.false in let b = c.loop-i.auto.i-end in omega (arith, a, b) in
    ap (map net_number) c.in_ok-extend_from_slice.ensures.items ∙ map-append net_number c.loop-i.leaf.items c.args.nets.now
    ∙ ap (λ (ns : List ℕ). ns ++ map net_number c.args.nets.now) (c.loop-i.invariant ∙ ap (range_with_len 0) ended)
