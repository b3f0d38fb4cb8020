use Rattle.std.proofs.Common.{map, take}
use Rattle.std.specs.List.{AllZip}
use Rattle.gate_net.specs.Gate.{net_number}
use Rattle.cone_split.specs.Copies.{IsImage}
use Rattle.cone_split.proofs.copy.images.Given as goal

abbrev pub invariant-loop-n : goal.invariant-loop-n
invariant-loop-n l = AllZip (IsImage (map net_number l.leaf) l.cells l.first) (map net_number (take l.n-index l.nets)) (map net_number l.found.items)
