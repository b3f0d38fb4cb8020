-- Nothing is found in the models so far.
use Rattle.netlist_spec.specs.SoundFaults.{bad_port_in}
use Rattle.source_nets.specs.Ports.{source_file, source_library}
use Rattle.source_placements.proofs.UsedLemmas.{IsNoneBefore}
use Rattle.source_placements.proofs.ports.first_bad_port.Given as goal

abbrev pub invariant-loop-i : goal.invariant-loop-i
invariant-loop-i l = IsNoneBefore (source_file l.source) (bad_port_in (source_file l.source) (source_library l.source)) l.i
