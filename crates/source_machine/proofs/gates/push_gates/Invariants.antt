-- The main model as far as its statements are done.
use Rattle.netlist_spec.specs.Netlist.{Model}
use Rattle.netlist_spec.specs.Sound.{IsMain}
use Rattle.source_nets.specs.Ports.{source_file, source_library}
use Rattle.source_machine.proofs.MainLoop.{Halfway}
use Rattle.source_machine.proofs.gates.push_gates.Given as goal

abbrev pub invariant-loop-i : goal.invariant-loop-i
invariant-loop-i l = (m : Model) → IsMain (source_file l.source) m → Halfway (source_file l.source) (source_library l.source) m l.i-items l.i-index l.net l.table
