use Rattle.std.proofs.Common.{◌≡◌, below_more, arith, true, false}
use Rattle.joined_net.proofs.NetMarks.{no_mark}
use Rattle.joined_net.proofs.marks.has_mark.Goals as goal

pub loop-i-preserved : goal.loop-i-preserved
loop-i-preserved c = below_more _ _ c.loop-i.invariant c.if-marks-inputs.false

pub returns : goal.returns
returns c = (
  λ h. let clash : false ≡ true = h in cc clash,
  λ f. let at = f.1 in
      let dead = c.loop-i.invariant at.0 (let h = at.1 in let e = c.loop-i-test.false in omega arith) in
      absurd (no_mark c.args.marks.now c.args.inputs at.0 f.0 c.args.word.now at.1 at.2 dead f.2),
)
