use Rattle.std.proofs.Common.{arith}
use Rattle.cone_split.proofs.AllCopied.{one_more}
use Rattle.cone_split.proofs.copy.all_gates.Goals as goal

pub loop-n-preserved : goal.loop-n-preserved
loop-n-preserved c = (let h = c.loop-n.invariant.0 in omega arith, one_more c.args.src.now.leaves c.loop-n.n c.loop-n.cells.items c.push.new.self.items c.loop-n.invariant.0 c.loop-n.invariant.1 c.in_ok-push.ensures.items)
