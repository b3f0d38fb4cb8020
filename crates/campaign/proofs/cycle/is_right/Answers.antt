use Rattle.std.proofs.Common.{sym, arith}
use Rattle.campaign.proofs.CycleLemmas.{right_of, wrong_at}
use Rattle.campaign.proofs.cycle.is_right.Goals as goal

pub returns-then-z-i : goal.returns-then-z-i
returns-then-z-i c = sym (wrong_at c.args.y.now c.args.z.now c.loop-i.i (omega arith) c.requires c.if-z-i.true)

pub returns : goal.returns
returns c = sym (right_of c.args.y.now c.args.z.now c.requires (λ k within. c.loop-i.invariant k (omega (arith, within))))
