-- What the nets come to, from the words that are left.
use Rattle.std.proofs.Common.{◌≡◌, drop, map}
use Rattle.blif_read.specs.View.{bind_of}
use Rattle.model_lowering.specs.Binds.{given_inside}
use Rattle.model_lowering.proofs.binds.give_nets.Given as goal

abbrev pub invariant-loop-bind : goal.invariant-loop-bind
invariant-loop-bind l = given_inside l.outer l.inner l.table (map (bind_of l.outer) (drop l.bind-index l.binds)) l.inside ≡ given_inside l.outer l.inner l.table (map (bind_of l.outer) l.binds) l.initial.inside
