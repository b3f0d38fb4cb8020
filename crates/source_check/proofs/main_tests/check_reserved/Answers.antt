use Rattle.std.proofs.Common.{sym, ◌∙◌, ap, Some, None}
use Rattle.netlist_spec.specs.SoundFaults.{reserved, reserved_in}
use Rattle.blif_read.specs.View.{model_of}
use Rattle.source_nets.specs.Ports.{source_file, source_library}
use Rattle.source_check.proofs.TestLemmas.{after_reserved, in_main}
use Rattle.source_check.proofs.main_tests.check_reserved.Goals as goal

pub returns-in_ok-told_name-in-Some-clause-refused : goal.returns-in_ok-told_name-in-Some-clause-refused
returns-in_ok-told_name-in-Some-clause-refused c =
    let s = c.args.source.now in
    let m = c.main_model.result.0.now in
    let found = sym (c.in-Some.ensures.exact (source_file s) (source_library s)) ∙ ap Some (sym c.in_ok-told_name-in-Some.ensures) in
    c.passed_files_are_sound.ensures.told (source_file s) (source_library s) (reserved c.in_ok-told_name-in-Some.field-0) (model_of m, c.main_model.ensures.main, found) c.requires.before

pub returns-in-None-clause-passes : goal.returns-in-None-clause-passes
returns-in-None-clause-passes c =
    let s = c.args.source.now in
    let F = source_file s in
    let L = source_library s in
    let m = c.main_model.result.0.now in
    after_reserved F L c.requires.before (λ k other. in_main F (reserved_in F L) (model_of m) k None c.main_model.ensures.main other (sym (c.in-None.ensures.exact F L)))
