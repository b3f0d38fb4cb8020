use Rattle.std.proofs.Common.{[], lit<}
use Rattle.netlist_spec.specs.SoundFaults.{twice, undriven}
use Rattle.source_nets.specs.Ports.{source_file, source_library}
use Rattle.source_check.proofs.model_tests.check_loops.Goals as goal

pub settle_models-requires-clause-drivers : goal.settle_models-requires-clause-drivers
settle_models-requires-clause-drivers c = λ m used.
    let s = c.args.source.now in
    c.passed_files_are_sound.ensures.drivers (source_file s) (source_library s) m (c.requires.before (twice []) (lit< tt) m used)

pub settle_models-requires-clause-driven : goal.settle_models-requires-clause-driven
settle_models-requires-clause-driven c = λ m used.
    let s = c.args.source.now in
    c.passed_files_are_sound.ensures.driven (source_file s) (source_library s) m (c.requires.before (undriven []) (lit< tt) m used)
