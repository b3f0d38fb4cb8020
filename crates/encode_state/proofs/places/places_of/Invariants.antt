-- The places of the nets so far.
use Rattle.std.proofs.Common.{map, take}
use Rattle.blif_read.specs.View.{name_at}
use Rattle.encode_state.specs.Places.{ArePlaces}
use Rattle.encode_state.proofs.places.places_of.Given as goal

abbrev pub invariant-loop-i : goal.invariant-loop-i
invariant-loop-i l = ArePlaces l.names (take l.i (map (name_at l.names) l.nets)) l.places.items
