-- The numbers from this place on are still to be put.
use Rattle.std.proofs.Common.{◌≡◌, ◌+◌, map, drop}
use Rattle.gate_net.specs.Gate.{net_number}
use Rattle.guard_net.specs.Built.{put_word}
use Rattle.guard_net.proofs.leaves.put_places.Given as goal

abbrev pub invariant-loop-p : goal.invariant-loop-p
invariant-loop-p l = put_word l.at l.word (map net_number l.initial.places) ≡ put_word (l.at + l.p) (drop l.p l.word) (map net_number l.places)
