use Rattle.source_nets.specs.Ports.{source_file, source_library}
use Rattle.source_check.proofs.TestLemmas.{all_passed}
use Rattle.source_check.proofs.all_tests.check_source.Goals as goal

pub returns-clause-sound : goal.returns-clause-sound
returns-clause-sound c =
    let s = c.args.source.now in
    c.passed_files_are_sound.ensures.sound (source_file s) (source_library s) (all_passed (source_file s) (source_library s) c.in_ok-costs.ensures.passes)
