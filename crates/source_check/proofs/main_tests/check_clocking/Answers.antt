use Rattle.std.proofs.Common.{◌≡◌, sym, ◌∙◌, ap, Some, None, option_map}
use Rattle.netlist_spec.specs.SoundFaults.{bad_clocking, clocking_in}
use Rattle.blif_read.specs.View.{model_of, name_at}
use Rattle.source_nets.specs.Ports.{source_file, source_library}
use Rattle.source_check.proofs.TestLemmas.{after_clocking, in_main}
use Rattle.source_check.proofs.main_tests.check_clocking.Goals as goal

pub returns-in-Some-clause-refused : goal.returns-in-Some-clause-refused
returns-in-Some-clause-refused c =
    let s = c.args.source.now in
    let m = c.main_model.result.0.now in
    let found = sym (c.in_ok-net.ensures.exact (source_file s) (source_library s) c.in_ok-read.ensures) ∙ ap (option_map (name_at m.names)) c.in-Some.is ∙ ap Some (sym c.in_ok-name_of-in-Some.ensures) in
    c.passed_files_are_sound.ensures.told (source_file s) (source_library s) (bad_clocking c.in_ok-name_of-in-Some.field-0) (model_of m, c.main_model.ensures.main, found) c.requires.before

pub returns-clause-passes : goal.returns-clause-passes
returns-clause-passes c =
    let s = c.args.source.now in
    let F = source_file s in
    let L = source_library s in
    let m = c.main_model.result.0.now in
    let none : clocking_in F L (model_of m) ≡ None = sym (c.in_ok-net.ensures.exact F L c.in_ok-read.ensures) ∙ ap (option_map (name_at m.names)) c.in-None.is in
    after_clocking F L c.requires.before (λ k other. in_main F (clocking_in F L) (model_of m) k None c.main_model.ensures.main other none)
