-- The names so far have these numbers.
use Rattle.std.proofs.Common.{List, take}
use Rattle.std.specs.List.{AllZip}
use Rattle.netlist_spec.specs.Netlist.{Name}
use Rattle.encode_state.specs.Listed.{Numbers}
use Rattle.encode_state.specs.Places.{ArePlaces}
use Rattle.encode_state.proofs.named.numbers.Given as goal

abbrev pub invariant-loop-name : goal.invariant-loop-name
invariant-loop-name l = (nets : List Name) → ArePlaces l.names nets l.places → AllZip (Numbers nets) (take l.name-index l.word) l.numbers.items
