-- The names so far have their numbers.
use Rattle.std.proofs.Common.{◌≡◌, ◌+◌, ◌≤◌, map, take, length}
use Rattle.blif_read.specs.View.{name_at}
use Rattle.blif_read.specs.Spelled.{AreNumbers, with_names}
use Rattle.blif_write.proofs.numbers.given_numbers.Given as goal

abbrev pub invariant-loop-id : goal.invariant-loop-id
invariant-loop-id l =
    record {
      names : l.names ≡ with_names l.initial.names (map (name_at l.given) (take l.id-index l.ids));
      numbers : AreNumbers l.names l.numbers.items (map (name_at l.given) (take l.id-index l.ids));
      few : length l.names ≤ length l.initial.names + l.id-index;
    }
