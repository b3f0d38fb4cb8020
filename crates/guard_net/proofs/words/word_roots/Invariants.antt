use Rattle.std.proofs.Common.{◌≡◌, map, take}
use Rattle.gate_net.specs.Gate.{net_number}
use Rattle.guard_cells.specs.Cells.{nets_at}
use Rattle.guard_net.proofs.words.word_roots.Given as goal

abbrev pub invariant-loop-i : goal.invariant-loop-i
invariant-loop-i l = map net_number l.roots.items ≡ nets_at (map net_number l.nets) (take l.i-index l.word)
