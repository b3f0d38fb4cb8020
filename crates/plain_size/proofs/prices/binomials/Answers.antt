use Rattle.std.proofs.Common.{◌≤◌, ◌*◌, ◌+◌, ◌^◌, arith}
use Rattle.std.proofs.Math.Nat.{mul-le-mul_left, mul-le-mul_right}
use Rattle.guard_spec.specs.Plain.{choose}
use Rattle.plain_size.proofs.PriceLemmas.{choose_few, next_level, sum_level}
use Rattle.plain_size.proofs.prices.binomials.Goals as goal

pub overflow_mul-level : goal.overflow_mul-level
overflow_mul-level c =
    let l = c.loop-i.level in
    let r = c.saturating_sub.result in
    let small : l ≤ 2 ^ 28 = (let e = c.loop-i.invariant.level in let h = choose_few c.args.n c.loop-i.i c.requires.places in omega arith) in
    let few : r ≤ 28 = (let e = c.saturating_sub.ensures in let h = c.requires.places in omega arith) in
    let first : l * r ≤ 2 ^ 28 * r = mul-le-mul_right r small in
    let second : 2 ^ 28 * r ≤ 2 ^ 28 * 28 = mul-le-mul_left (2 ^ 28) few in
    omega arith

pub overflow_add-sum : goal.overflow_add-sum
overflow_add-sum c =
    let e = next_level c.args.n c.loop-i.i c.loop-i.level c.saturating_sub.result c.loop-i.invariant.level c.saturating_sub.ensures in
    let h = choose_few c.args.n (c.loop-i.i + 1) c.requires.places in
    let w = c.loop-i.invariant.within in
    let f = c.requires.few in
    let t = c.loop-i-test.true in
    omega arith

pub loop-i-preserved : goal.loop-i-preserved
loop-i-preserved c =
    let e = next_level c.args.n c.loop-i.i c.loop-i.level c.saturating_sub.result c.loop-i.invariant.level c.saturating_sub.ensures in
    let h = choose_few c.args.n (c.loop-i.i + 1) c.requires.places in
    let w = c.loop-i.invariant.within in
    let s = sum_level (choose c.args.n) c.loop-i.i in
    let i = c.loop-i.invariant.sum in
    record { level = e; sum = omega arith; within = omega arith }
