use Rattle.std.proofs.Common.{arith}
use Rattle.net_cycles.proofs.ReverseLemmas.{reverse_begins, reverse_ends, reverse_more}
use Rattle.net_cycles.proofs.reverse.all_starts.Goals as goal

pub loop-node-init : goal.loop-node-init
loop-node-init c = reverse_begins c.args.graph.now c.in_ok-starts.starts c.len.result c.in_ok-starts.ensures c.len.ensures

pub loop-node-preserved : goal.loop-node-preserved
loop-node-preserved c = reverse_more c.args.graph.now c.loop-node.starts c.add.new.self c.loop-node.node c.row.result.now c.row.ensures c.in_ok-add.ensures c.loop-node.invariant

pub returns : goal.returns
returns c = reverse_ends c.args.graph.now c.loop-node.starts c.loop-node.node (omega arith) c.loop-node.invariant
