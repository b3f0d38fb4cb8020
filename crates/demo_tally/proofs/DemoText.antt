-- From the text of a campaign over the three texts of the design to the text of a demo.
use Rattle.std.proofs.Common.{◌≡◌, refl, sym, ◌∙◌, ap, subst, ℕ, ◌+◌, ◌*◌, List, ◌++◌, length, Result, Ok, Err, Some}
use Rattle.netlist_spec.specs.Netlist.{Model, File}
use Rattle.netlist_spec.specs.Models.{main_model, data_inputs, latches_of}
use Rattle.netlist_spec.specs.Ordered.{cell_nets}
use Rattle.netlist_spec.specs.Reads.{Reads}
use Rattle.netlist_spec.specs.Runs.{Fault}
use Rattle.netlist_spec.specs.SourceRun.{Stream}
use Rattle.netlist_spec.specs.WrittenText.{IsTextOf}
use Rattle.netlist_spec.proofs.OneReading.{one_reading}
use Rattle.stimulus_spec.specs.Stimulus.{stimulus_of}
use Rattle.guard_spec.specs.Codes.{detect}
use Rattle.tally_laws.specs.Counts.{total}
use Rattle.guard_spec.specs.Containment.{IsGuard}
use Rattle.guard_spec.specs.Plain.{IsPlain}
use Rattle.guard_spec.specs.SettingsFile.{settings_of_bytes}
use Rattle.guard_spec.specs.Tally.{Tally, IsTally}
use Rattle.guard_spec.specs.Words.{Settings, Layout, IsLayout}
use Rattle.program_spec.specs.CampaignText.{IsCampaignText, IsDemoText}
use Rattle.program_spec.specs.Demo.{demo_cycle, demo_netlist, demo_settings, demo_stream}
use Rattle.program_spec.specs.Printed.{demo_text, tally_text}
use Rattle.program_spec.proofs.OneLayout.{one_layout}
use Rattle.demo_laws.specs.DemoFile.{demo_file, demo_layout, demo_model}
use Rattle.demo_design.specs.Design.{AreRead, IsWholeDesign}
use Rattle.demo_tally.proofs.NoRefusal.{same_some}
use Rattle.demo_tally.proofs.TallyLines.{same_lines}

same_ok : {A F : Type 0} (answer : Result A F) (a b : A) → answer ≡ Ok a → answer ≡ Ok b → a ≡ b
same_ok answer a b p q = let e : Ok a ≡ Ok b = sym p ∙ q in cc

-- the numbers of the design
numbers_of : (n statements latches plain : ℕ) → statements ≡ 13 * n → latches ≡ 4 * n → plain ≡ 4720 * n + 4 → demo_text statements latches plain ≡ demo_text (13 * n) (4 * n) (4720 * n + 4)
numbers_of n statements latches plain a b c = cc

module _ (n : ℕ) (whole : IsWholeDesign n) (text stimulus : List ℕ) (allowed : ℕ → List Fault → Type 0) (read : stimulus_of (length (data_inputs (demo_model n))) stimulus ≡ Ok (demo_stream n)) where
  module _ (g : File) (guard_text : List ℕ) (source : File) (is_source : Reads (demo_netlist n) source) (same : source ≡ demo_file n) (text_of_g : IsTextOf guard_text source g) (xs : Stream) (cells : ℕ) (tally : Tally) (written : text ≡ demo_text (13 * n) (4 * n) (4720 * n + 4) ++ tally_text cells tally) where
    -- what a campaign says of a guard, to the text of a demo
    abbrev GivesText : Settings → Type 0
    GivesText s =
        (guards : IsGuard g source s (allowed s.bound))
        → stimulus_of (length (data_inputs guards.shaped.source_model)) stimulus ≡ Ok xs
        → IsTally g source s guards.shaped.layout xs demo_cycle tally
        → cells ≡ length (cell_nets guards.shaped.guard_model)
        → total tally ≡ 2 * cells
        → tally.wrong ≡ 0
        → (s.mode ≡ detect → tally.decoded ≡ 0)
        → IsDemoText n text allowed

    by_demo_settings : GivesText demo_settings
    by_demo_settings guards stream is_tally are_cells add_up none_wrong none_decoded =
        let model : demo_model n ≡ guards.shaped.source_model = same_some (main_model source) (demo_model n) guards.shaped.source_model (ap main_model same) guards.shaped.is_source_model in
        let is_layout : IsLayout (demo_model n) demo_settings guards.shaped.layout = subst (λ (m : Model). IsLayout m demo_settings guards.shaped.layout) (sym model) guards.shaped.is_layout in
        let layout : demo_layout n ≡ guards.shaped.layout = one_layout (demo_model n) demo_settings (demo_layout n) guards.shaped.layout whole.no_fault whole.laid_out is_layout in
        let again : stimulus_of (length (data_inputs guards.shaped.source_model)) stimulus ≡ Ok (demo_stream n) = subst (λ (m : Model). stimulus_of (length (data_inputs m)) stimulus ≡ Ok (demo_stream n)) model read in
        let streams : xs ≡ demo_stream n = same_ok (stimulus_of (length (data_inputs guards.shaped.source_model)) stimulus) xs (demo_stream n) stream again in
        record {
          cells = cells;
          tally = tally;
          written = written;
          source = source;
          is_source = is_source;
          guard_text = guard_text;
          g = g;
          text_of_g = text_of_g;
          guards = guards;
          statements = subst (λ (m : Model). length m.statements ≡ 13 * n) model whole.statements;
          latches = subst (λ (m : Model). length (latches_of m) ≡ 4 * n) model whole.latches;
          plain =
              subst (λ (l : Layout). IsPlain source demo_settings.library guards.shaped.source_model demo_settings.code demo_settings.mode demo_settings.bound l (4720 * n + 4)) layout
              (subst (λ (m : Model). IsPlain source demo_settings.library m demo_settings.code demo_settings.mode demo_settings.bound (demo_layout n) (4720 * n + 4)) model
              (subst (λ (f : File). IsPlain f demo_settings.library (demo_model n) demo_settings.code demo_settings.mode demo_settings.bound (demo_layout n) (4720 * n + 4)) (sym same) whole.plain));
          is_tally = subst (λ (ys : Stream). IsTally g source demo_settings guards.shaped.layout ys demo_cycle tally) streams is_tally;
          are_cells = are_cells;
          add_up = add_up;
          none_wrong = none_wrong;
          none_decoded = none_decoded refl;
        }

    by_settings : (s : Settings) → s ≡ demo_settings → GivesText s
    by_settings s e = subst (λ (x : Settings). GivesText x) (sym e) by_demo_settings

pub demo_is_written : (n statements latches plain cells : ℕ) (tally : Tally) (settings netlist stimulus rest : List ℕ) (allowed : ℕ → List Fault → Type 0)
    → IsWholeDesign n → netlist ≡ demo_netlist n → AreRead n settings netlist stimulus
    → IsCampaignText settings netlist stimulus (tally_text cells tally ++ rest) demo_cycle allowed
    → statements ≡ 13 * n → latches ≡ 4 * n → plain ≡ 4720 * n + 4
    → IsDemoText n (demo_text statements latches plain ++ tally_text cells tally) allowed
demo_is_written n statements latches plain cells tally settings netlist stimulus rest allowed whole same_text read is a b c =
    let of_design : Reads (demo_netlist n) is.guarded.source = subst (λ (t : List ℕ). Reads t is.guarded.source) same_text is.guarded.is_source in
    let same : is.guarded.source ≡ demo_file n = one_reading netlist is.guarded.source (demo_file n) is.guarded.is_source read.file in
    let by : is.guarded.s ≡ demo_settings = same_ok (settings_of_bytes settings) is.guarded.s demo_settings is.guarded.is_settings read.settings_are in
    let lines : tally_text cells tally ≡ tally_text is.cells is.tally = same_lines cells is.cells tally is.tally rest is.guard_text is.written in
    let numbers = numbers_of n statements latches plain a b c in
    let written : demo_text statements latches plain ++ tally_text cells tally ≡ demo_text (13 * n) (4 * n) (4720 * n + 4) ++ tally_text is.cells is.tally =
    ap (λ (t : List ℕ). t ++ tally_text cells tally) numbers ∙ ap (λ (t : List ℕ). demo_text (13 * n) (4 * n) (4720 * n + 4) ++ t) lines in
    by_settings n whole (demo_text statements latches plain ++ tally_text cells tally) stimulus allowed read.stream is.guarded.g is.guard_text is.guarded.source of_design same is.guarded.text_of_g is.xs is.cells is.tally written is.guarded.s by is.guarded.guards is.is_stream is.is_tally is.are_cells is.add_up is.none_wrong is.none_decoded
