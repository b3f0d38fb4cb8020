-- The numbers from this place on are still to be put.
use Rattle.std.proofs.Common.{◌≡◌, map, drop}
use Rattle.gate_net.specs.Gate.{net_number}
use Rattle.joined_net.specs.Words.{put_nets}
use Rattle.joined_net.proofs.correctors.put_at.Given as goal

abbrev pub invariant-loop-p : goal.invariant-loop-p
invariant-loop-p l = put_nets l.word (map net_number l.found) (map net_number l.initial.nets) ≡ put_nets (drop l.p l.word) (map net_number (drop l.p l.found)) (map net_number l.nets)
