-- Nothing is found in the models so far.
use Rattle.netlist_spec.specs.SoundFaults.{no_such_model_in}
use Rattle.source_nets.specs.Ports.{source_file, source_library}
use Rattle.source_placements.proofs.UsedLemmas.{IsNoneBefore}
use Rattle.source_placements.proofs.names.first_no_such_model.Given as goal

abbrev pub invariant-loop-i : goal.invariant-loop-i
invariant-loop-i l = IsNoneBefore (source_file l.source) (no_such_model_in (source_file l.source) (source_library l.source)) l.i
