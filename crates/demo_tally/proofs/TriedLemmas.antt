-- What is read of the design and made of it, and the text of the demo.
use Rattle.std.proofs.Common.{◌≡◌, refl, sym, ◌∙◌, ap, subst, ℕ, ◌+◌, ◌*◌, List, [], ◌∷◌, ◌++◌, map, length, get_or, vec_len, Some}
use Rattle.std.specs.Prelude.{Ok}
use Rattle.std.proofs.lemmas.List.{length-map}
use Rattle.netlist_spec.specs.Gates.{Machine}
use Rattle.netlist_spec.specs.Models.{Latch, data_inputs, latch_outputs, latches_of, main_model}
use Rattle.netlist_spec.specs.Netlist.{Model, File}
use Rattle.netlist_spec.specs.Reads.{Reads}
use Rattle.netlist_spec.specs.Runs.{IsSteady}
use Rattle.netlist_spec.specs.SourceRun.{Stream}
use Rattle.netlist_spec.specs.Text.{text_of}
use Rattle.netlist_spec.specs.Written.{Named, file_of as written_file}
use Rattle.netlist_spec.proofs.OneReading.{one_reading}
use Rattle.stimulus_spec.specs.Stimulus.{stimulus_of}
use Rattle.guard_spec.specs.SettingsFile.{settings_of_bytes}
use Rattle.guard_spec.specs.Words.{Settings, Layout}
use Rattle.program_spec.specs.CampaignText.{IsDemoText}
use Rattle.program_spec.specs.Demo.{demo_cycle, demo_netlist, demo_stream}
use Rattle.blif_read.specs.View.{file_of, located_of, model_of}
use Rattle.blif_read.specs.declared.file.File.{File as ReadFile}
use Rattle.blif_read.specs.declared.file.Located.{Located as ReadLocated}
use Rattle.blif_read.specs.declared.file.Model.{Model as ReadModel}
use Rattle.campaign.specs.Views.{tally_in}
use Rattle.demo_laws.specs.DemoFile.{demo_file, demo_model}
use Rattle.demo_design.specs.Design.{AreRead, IsWholeDesign}
use Rattle.demo_design.specs.declared.design.Demo.{Demo}
use Rattle.guard_source.specs.Made.{IsGuardMade}
use Rattle.guard_tally.specs.Tallied.{IsTallied, MakesText}
use Rattle.guard_tally.specs.declared.tally.GuardTally.{GuardTally}
use Rattle.demo_tally.specs.Tried.{summary_text}
use Rattle.demo_tally.specs.declared.demo.DemoTally.{DemoTally}
use Rattle.demo_tally.proofs.DemoText.{demo_is_written}
use Rattle.demo_tally.proofs.NoRefusal.{same_some}

-- ---- the file that is read

-- the first model of a file of one model
first_read : (models : List ReadModel) (m : ReadModel) (d : Model) → map model_of models ≡ d ∷ [] → m ≡ get_or models 0 m → model_of m ≡ d
first_read [] m d e is = absurd (cc e)
first_read (r ∷ models) m d e is = let same : model_of r ≡ d = cc e in ap model_of is ∙ same

-- its statements
statements_read : (models : List ReadModel) (m : ReadModel) (d : Model) → map model_of models ≡ d ∷ [] → m ≡ get_or models 0 m → vec_len m.statements ≡ length d.statements
statements_read models m d e is =
    let same : length (model_of m).statements ≡ length d.statements = ap (λ (x : Model). length x.statements) (first_read models m d e is) in
    m.statements.ok.0 ∙ sym (length-map m.statements.items (λ (s : ReadLocated). located_of m.names s)) ∙ same

-- those of the design
pub statement_count : (n : ℕ) (file : ReadFile) (m : ReadModel) → IsWholeDesign n → file_of file ≡ demo_file n → m ≡ get_or file.models.items 0 m → vec_len m.statements ≡ 13 * n
statement_count n file m whole same is = statements_read file.models.items m (demo_model n) (ap (λ (f : File). f.models) same) is ∙ whole.statements

-- The text that is read is the netlist of the design.
pub read_as : (n : ℕ) (d : Demo) (text : List ℕ) (source : File) → AreRead n d.settings.items d.netlist.items d.stimulus.items → text ≡ d.netlist.items → Reads text source → source ≡ demo_file n
read_as n d text source read same reads = one_reading d.netlist.items source (demo_file n) (subst (λ (t : List ℕ). Reads t source) same reads) read.file

-- ---- the guard that is made

module _ (source : File) (s : Settings) (n : Named) (machine : Machine) (l : Layout) (made : IsGuardMade source s n machine l) (m : Model) (main : main_model source ≡ Some m) where
  same_main : made.from.m ≡ m
  same_main = same_some (main_model source) made.from.m m made.from.is_main main

  pub made_inputs : machine.inputs ≡ length (data_inputs m)
  made_inputs = sym (ap (λ (x : Machine). x.inputs) made.machine_is) ∙ made.from.elaborated.machine.inputs ∙ ap (λ (x : Model). length (data_inputs x)) same_main

  pub made_latches : length machine.latches ≡ length (latches_of m)
  made_latches =
      sym (ap (λ (x : Machine). length x.latches) made.machine_is) ∙ sym made.from.elaborated.form.latches ∙ ap length made.from.elaborated.latch_names
      ∙ ap (λ (x : Model). length (latch_outputs x)) same_main ∙ length-map (latches_of m) (λ (l : Latch). l.q)

-- ---- the demo

module _ (n : ℕ) (d : Demo) (whole : IsWholeDesign n) (read : AreRead n d.settings.items d.netlist.items d.stimulus.items) (source : File) (same : source ≡ demo_file n) (s : Settings) (named : Named) (machine : Machine) (l : Layout) (made : IsGuardMade source s named machine l) where
  main : main_model source ≡ Some (demo_model n)
  main = ap main_model same

  latch_count : length machine.latches ≡ 4 * n
  latch_count = made_latches source s named machine l made (demo_model n) main ∙ whole.latches

  pub stream_of : stimulus_of machine.inputs d.stimulus.items ≡ Ok (demo_stream n)
  stream_of = ap (λ (k : ℕ). stimulus_of k d.stimulus.items) (made_inputs source s named machine l made (demo_model n) main) ∙ read.stream

  pub demo_is_tried : d.netlist.items ≡ demo_netlist n → settings_of_bytes d.settings.items ≡ Ok s → (xs : Stream) → stimulus_of machine.inputs d.stimulus.items ≡ Ok xs
      → (tried : DemoTally) → IsTallied named machine s l xs demo_cycle tried.tally → MakesText d.settings.items d.netlist.items d.stimulus.items source s named machine l xs demo_cycle tried.tally
      → tried.statements ≡ 13 * n → tried.latches ≡ length machine.latches → tried.plain ≡ 4720 * n + 4
      → IsDemoText n (summary_text tried) (λ t. IsSteady t)
  demo_is_tried same_text is_settings xs is_stream tried tallied law statements latches plain =
      let reads : Reads d.netlist.items source = subst (λ (f : File). Reads d.netlist.items f) (sym same) read.file in
      demo_is_written n tried.statements tried.latches tried.plain tried.tally.cells (tally_in tried.tally.outcomes) d.settings.items d.netlist.items d.stimulus.items (text_of named.unknown_inits (written_file named)) (λ t. IsSteady t) whole same_text
      read (law made is_settings reads is_stream tallied) statements (latches ∙ latch_count) plain
