-- The ends so far are met.
use Rattle.std.proofs.Common.{◌≡◌, length, take}
use Rattle.plain_size.specs.Walks.{Walks, stamps_of}
use Rattle.plain_size.proofs.walk.Walk.meet_all.Given as goal

abbrev pub invariant-loop-end : goal.invariant-loop-end
invariant-loop-end l = record { size : length (stamps_of l.self) ≡ length (stamps_of l.initial.self); walks : Walks l.costs (take l.end-index l.ends) l.initial.self l.self }
