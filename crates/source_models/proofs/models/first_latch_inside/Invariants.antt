-- No earlier model is such.
use Rattle.netlist_spec.specs.SoundFaults.{HasLatchInside}
use Rattle.source_nets.specs.Ports.{source_file, source_library}
use Rattle.source_models.proofs.ModelLemmas.{NoneBefore}
use Rattle.source_models.proofs.models.first_latch_inside.Given as goal

abbrev pub invariant-loop-k : goal.invariant-loop-k
invariant-loop-k l = NoneBefore (source_file l.source) (HasLatchInside (source_file l.source) (source_library l.source)) l.k
