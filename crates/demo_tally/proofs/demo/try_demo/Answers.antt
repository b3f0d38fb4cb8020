use Rattle.std.proofs.Common.{◌≡◌, refl, sym, ◌∙◌, ap, subst, ℕ, ◌+◌, ◌*◌, List, length, arith}
use Rattle.std.specs.Prelude.{Ok}
use Rattle.std.proofs.lemmas.List.{length-map}
use Rattle.stimulus_spec.specs.Stimulus.{stimulus_of}
use Rattle.guard_spec.specs.SettingsFile.{settings_of_bytes}
use Rattle.program_spec.specs.Demo.{demo_cycle, demo_settings, demo_stream}
use Rattle.blif_read.specs.View.{file_of}
use Rattle.gate_net.specs.Machine.{latch_row}
use Rattle.demo_laws.specs.DemoFile.{demo_file}
use Rattle.guard_source.specs.declared.source.SourceGuard.{SourceGuard}
use Rattle.demo_tally.specs.declared.demo.DemoTally.{DemoTally}
use Rattle.demo_tally.proofs.StimulusLength.{stimulus_is_short}
use Rattle.demo_tally.proofs.TriedLemmas.{demo_is_tried, read_as, statement_count, stream_of}
use Rattle.demo_tally.proofs.demo.try_demo.Goals as goal

pub read_settings-requires : goal.read_settings-requires
read_settings-requires c =
    (demo_settings, subst (λ (text : List ℕ). settings_of_bytes text ≡ Ok demo_settings) (sym c.deref.ensures.value) c.in_ok-design.ensures.read.settings_are)

pub overflow_cast-statements : goal.overflow_cast-statements
overflow_cast-statements c =
    let n = c.args.n in
    let told = c.in_ok-design.ensures in
    let file : file_of c.in_ok-file.file ≡ demo_file n = read_as n c.in_ok-design.design c.deref-2.result.now (file_of c.in_ok-file.file) told.read c.deref-2.ensures.value c.in_ok-file.ensures.reads in
    let count = statement_count n c.in_ok-file.file c.index.result.now told.design file c.index.ensures in
    let size = c.requires in
    let is = c.len-statements.ensures in
    omega (arith, is, count, size)

pub guard_design-requires-clause-design : goal.guard_design-requires-clause-design
guard_design-requires-clause-design c =
    let n = c.args.n in
    let told = c.in_ok-design.ensures in
    (n, told.design, read_as n c.in_ok-design.design c.deref-2.result.now (file_of c.in_ok-file.file) told.read c.deref-2.ensures.value c.in_ok-file.ensures.reads)

pub read_stimulus-requires-clause-short : goal.read_stimulus-requires-clause-short
read_stimulus-requires-clause-short c =
    let short = stimulus_is_short c.args.n c.requires in
    let same : length c.deref-3.result.now ≡ length c.in_ok-design.design.stimulus.items = ap length c.deref-3.ensures.value in
    let text = ap length c.in_ok-design.ensures.stimulus in
    omega (arith, short, same, text)

pub read_stimulus-requires-clause-stream : goal.read_stimulus-requires-clause-stream
read_stimulus-requires-clause-stream c =
    let n = c.args.n in
    let design = c.in_ok-design.design in
    let told = c.in_ok-design.ensures in
    let guard = c.in_ok-guard.guard in
    let file : file_of c.in_ok-file.file ≡ demo_file n = read_as n design c.deref-2.result.now (file_of c.in_ok-file.file) told.read c.deref-2.ensures.value c.in_ok-file.ensures.reads in
    let stream : stimulus_of guard.machine.inputs design.stimulus.items ≡ Ok (demo_stream n) =
    stream_of n design told.design told.read (file_of c.in_ok-file.file) file c.in_ok-settings.settings guard.named guard.machine guard.layout c.in_ok-guard.ensures in
    let inputs = ap (λ (g : SourceGuard). g.machine.inputs) c.guard.view_is in
    let text = ap (λ (text : List ℕ). stimulus_of guard.machine.inputs text) c.deref-3.ensures.value in
    (demo_stream n, ap (λ (k : ℕ). stimulus_of k c.deref-3.result.now) inputs ∙ text ∙ stream)

pub returns : goal.returns
returns c =
    let n = c.args.n in
    let design = c.in_ok-design.design in
    let told = c.in_ok-design.ensures in
    let guard = c.in_ok-guard.guard in
    let settings = c.in_ok-settings.settings in
    let inside = c.guard.inside in
    let xs = c.in_ok-stimulus.stimulus.cycles in
    let source = file_of c.in_ok-file.file in
    let file : source ≡ demo_file n = read_as n design c.deref-2.result.now source told.read c.deref-2.ensures.value c.in_ok-file.ensures.reads in
    let is_settings : settings_of_bytes design.settings.items ≡ Ok settings = subst (λ (text : List ℕ). settings_of_bytes text ≡ Ok settings) c.deref.ensures.value c.in_ok-settings.ensures in
    let stream : stimulus_of inside.0.1.0.inputs design.stimulus.items ≡ Ok xs = subst (λ (text : List ℕ). stimulus_of inside.0.1.0.inputs text ≡ Ok xs) c.deref-3.ensures.value c.in_ok-stimulus.ensures.stream in
    let is_stream : stimulus_of guard.machine.inputs design.stimulus.items ≡ Ok xs = subst (λ (g : SourceGuard). stimulus_of g.machine.inputs design.stimulus.items ≡ Ok xs) c.guard.view_is stream in
    let latches : c.len.result ≡ length guard.machine.latches =
    c.len.ensures ∙ inside.0.1.0.latches.ok.0 ∙ sym (length-map inside.0.1.0.latches.items latch_row) ∙ ap (λ (g : SourceGuard). length g.machine.latches) c.guard.view_is in
    let statements = c.len-statements.ensures ∙ statement_count n c.in_ok-file.file c.index.result.now told.design file c.index.ensures in
    let tried : DemoTally = record { statements = c.len-statements.result; latches = c.len.result; plain = 4720 * n + 4; tally = c.in_ok-tally.tally } in
    let law = c.tallies_make_a_text.ensures design.settings.items design.netlist.items design.stimulus.items source settings guard.named guard.machine guard.layout xs demo_cycle c.in_ok-tally.tally in
    demo_is_tried n design told.design told.read source file settings guard.named guard.machine guard.layout c.in_ok-guard.ensures told.netlist is_settings xs is_stream tried c.in_ok-tally.ensures law statements latches refl
