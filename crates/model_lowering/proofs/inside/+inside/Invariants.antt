-- A placed model has one step less.
use Rattle.std.proofs.Common.{◌≡◌, ◌+◌, ◌*◌, Some, slice_get}
use Rattle.netlist_spec.specs.Netlist.{Model}
use Rattle.source_nets.specs.Ports.{source_file, source_library}
use Rattle.model_lowering.proofs.Halfway.{Halfway}
use Rattle.model_lowering.proofs.inside.+inside.Given as goal

abbrev pub decreases-lower_model : goal.decreases-lower_model
decreases-lower_model l = 3 * l.fuel + 2

abbrev pub decreases-lower_statement : goal.decreases-lower_statement
decreases-lower_statement l = 3 * l.fuel + 1

abbrev pub decreases-lower_placed : goal.decreases-lower_placed
decreases-lower_placed l = 3 * l.fuel

abbrev pub invariant-lower_model-loop-i : goal.invariant-lower_model-loop-i
invariant-lower_model-loop-i l =
    (m : Model) → slice_get (source_file l.source).models l.k ≡ Some m
    → Halfway (source_file l.source) (source_library l.source) m l.fn.net l.fn.inside l.i-items l.i-index l.net l.inside
