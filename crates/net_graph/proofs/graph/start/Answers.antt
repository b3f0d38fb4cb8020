use Rattle.net_graph.proofs.RowLemmas.{start_is}
use Rattle.net_graph.proofs.graph.start.Goals as goal

pub returns-else-node-eq0 : goal.returns-else-node-eq0
returns-else-node-eq0 c = start_is c.args.stops.now c.args.node c.if-node-eq0.false c.requires
