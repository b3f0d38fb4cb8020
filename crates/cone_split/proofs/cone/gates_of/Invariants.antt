use Rattle.std.proofs.Common.{map, get_or, reverse}
use Rattle.gate_net.specs.Gate.{net_number}
use Rattle.gate_net.specs.GateNet.{net_count}
use Rattle.cone_split.proofs.Marks.{HasMarked}
use Rattle.cone_split.proofs.cone.gates_of.Given as goal

abbrev pub invariant-loop-n : goal.invariant-loop-n
invariant-loop-n l = HasMarked l.src (map net_number l.roots) (reverse l.cells.items) l.pending.keys

-- the gate that was found last
abbrev pub decreases-loop-n : goal.decreases-loop-n
decreases-loop-n l = get_or (reverse l.cells.items) 0 (net_count l.src)
