-- The bytes so far are printed, each as at most four.
use Rattle.std.proofs.Common.{◌≡◌, ◌*◌, ◌≤◌, length, take}
use Rattle.std.specs.List.{flat_map}
use Rattle.netlist_spec.specs.Escapes.{escape}
use Rattle.refusals.proofs.escaped.escaped.Given as goal

abbrev pub invariant-loop-b : goal.invariant-loop-b
invariant-loop-b l = (l.printed.items ≡ flat_map escape (take l.b-index l.chunk)) × (length l.printed.items ≤ 4 * l.b-index)
