use Rattle.std.proofs.Common.{◌≡◌, length, arith}
use Rattle.sim_text.proofs.PackedLemmas.{copied}
use Rattle.sim_text.proofs.bits.Bits.copy_to.Goals as goal

pub overflow_add-start : goal.overflow_add-start
overflow_add-start c =
    let long = c.loop-i.auto.x in
    let below = c.loop-i-test.true in
    omega (arith, long, below, c.requires.inside, c.requires.few)

pub returns : goal.returns
returns c =
    let long : length c.loop-i.x ≡ length c.args.x.now = omega (arith, c.loop-i.auto.x) in
    let end = c.loop-i-test.false in
    copied c.loop-i.x c.args.self.now c.args.start (length c.args.x.now) long c.requires.inside (λ k h. c.loop-i.invariant k (omega (arith, h, long, end)))
