use Rattle.net_cycles.proofs.FinishLemmas.{all_more}
use Rattle.net_cycles.proofs.finish.all_to_enter.Goals as goal

pub loop-node-preserved : goal.loop-node-preserved
loop-node-preserved c = all_more c.loop-node.node c.loop-node.stack.items c.push.new.self.items c.in_ok-push.ensures.items c.loop-node.invariant
