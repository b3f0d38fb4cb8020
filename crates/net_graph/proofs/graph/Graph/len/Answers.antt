use Rattle.std.proofs.Common.{ap, length, arith}
use Rattle.net_graph.proofs.RowLemmas.{length-rows}
use Rattle.net_graph.proofs.graph.Graph.len.Goals as goal

pub returns : goal.returns
returns c = omega (arith, c.self.inside.stops.ok.0, length-rows 0 c.self.inside.stops.items c.self.inside.ends.items, ap length c.self.view_is)
