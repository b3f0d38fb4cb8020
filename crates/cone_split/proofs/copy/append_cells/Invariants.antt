use Rattle.std.proofs.Common.{◌≡◌, ◌++◌, List, map, take}
use Rattle.netlist_spec.specs.Gates.{GateForm}
use Rattle.gate_net.specs.Gate.{net_number}
use Rattle.gate_net.specs.GateNet.{net_count}
use Rattle.cone_split.specs.Copies.{AreCopied}
use Rattle.cone_split.proofs.copy.append_cells.Given as goal

abbrev pub invariant-loop-n : goal.invariant-loop-n
invariant-loop-n l =
    (hs : List GateForm) × (l.dst ≡ record l.fn.dst { gates = l.fn.dst.gates ++ hs })
    × AreCopied l.src (map net_number l.leaf) l.cells (net_count l.fn.dst) (take l.n-index l.cells) hs
