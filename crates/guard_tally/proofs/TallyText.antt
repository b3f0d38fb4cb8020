-- The tally of a guard that was made for a source, and its text, are what a campaign writes.
use Rattle.std.proofs.Common.{◌≡◌, refl, sym, ◌∙◌, ap, subst, ℕ, ◌+◌, ◌*◌, List, ◌++◌, length, Option, Some, Result, Ok}
use Rattle.netlist_spec.specs.Netlist.{Model, File}
use Rattle.netlist_spec.specs.Models.{main_model, data_inputs}
use Rattle.netlist_spec.specs.Reads.{Reads}
use Rattle.netlist_spec.specs.Runs.{IsSteady}
use Rattle.netlist_spec.specs.SourceRun.{Stream}
use Rattle.netlist_spec.specs.Elaborated.{IsMachineOf}
use Rattle.netlist_spec.specs.Gates.{Machine}
use Rattle.netlist_spec.specs.Ordered.{cell_nets}
use Rattle.netlist_spec.specs.Text.{text_of}
use Rattle.netlist_spec.specs.Written.{Named, file_of}
use Rattle.netlist_spec.proofs.OneReading.{one_reading}
use Rattle.stimulus_spec.specs.Stimulus.{stimulus_of}
use Rattle.guard_spec.specs.Codes.{IsCode, Mode, correct, detect}
use Rattle.guard_spec.specs.SettingsFile.{SettingsFault, settings_of_bytes}
use Rattle.guard_spec.specs.Tally.{IsTally, Tally}
use Rattle.guard_spec.specs.Words.{IsLayout, Layout, Settings}
use Rattle.guard_text_spec.specs.GuardText.{IsGuardText}
use Rattle.program_spec.specs.CampaignText.{IsCampaignText}
use Rattle.program_spec.proofs.OneLayout.{one_layout}
use Rattle.containment.specs.Outcomes.{IsClean}
use Rattle.containment.proofs.Campaign.{clean_tally, one_is_within, tally_of_machine}
use Rattle.containment.proofs.Text.{within_is_steady_list}
use Rattle.tally_laws.specs.Counts.{total}
use Rattle.tally_laws.proofs.Counts.{all_cells}
use Rattle.campaign.specs.Views.{tally_in}
use Rattle.guard_laws.proofs.Texts.{guarding_text}
use Rattle.guard_source.specs.Made.{IsGuardMade}
use Rattle.guard_tally.specs.declared.tally.GuardTally.{GuardTally}
use Rattle.guard_tally.specs.Tallied.{IsTallied, lines_of}
use Rattle.guard_tally.proofs.SettingsBound.{some_bound}

same_settings : (a b : Settings) (r : Result Settings SettingsFault) → r ≡ Ok a → r ≡ Ok b → a ≡ b
same_settings a b r e f = let both : Ok a ≡ Ok b = sym e ∙ f in cc both

same_model : (a b : Model) (o : Option Model) → o ≡ Some a → o ≡ Some b → a ≡ b
same_model a b o e f = let both : Some a ≡ Some b = sym e ∙ f in cc both

-- what is clean, by the mode
none_wrong : (mode : Mode) (tally : Tally) → IsClean mode tally → tally.wrong ≡ 0
none_wrong detect tally clean = clean.0
none_wrong correct tally clean = clean.0

none_decoded : (mode : Mode) (tally : Tally) → IsClean mode tally → mode ≡ detect → tally.decoded ≡ 0
none_decoded detect tally clean is = clean.1
none_decoded correct tally clean is = absurd (cc is)

none_alarmed : (mode : Mode) (tally : Tally) → IsClean mode tally → mode ≡ correct → tally.alarmed ≡ 0
none_alarmed detect tally clean is = absurd (cc is)
none_alarmed correct tally clean is = clean.1

module _ (settings netlist stimulus : List ℕ) (source : File) (s : Settings) (n : Named) (machine : Machine) (l : Layout) (xs : Stream) (cycle : ℕ) (t : GuardTally) (made : IsGuardMade source s n machine l) (is_settings : settings_of_bytes settings ≡ Ok s) (reads : Reads netlist source)
    (is_stream : stimulus_of machine.inputs stimulus ≡ Ok xs) (tallied : IsTallied n machine s l xs cycle t) where
  -- the guard, with what it was read from
  guarded : IsGuardText settings netlist (text_of n.unknown_inits (file_of n)) (λ t. IsSteady t)
  guarded = guarding_text settings netlist source s n is_settings reads made.from

  settings_are : guarded.s ≡ s
  settings_are = same_settings guarded.s s (settings_of_bytes settings) guarded.is_settings is_settings

  source_is : guarded.source ≡ source
  source_is = one_reading netlist guarded.source source guarded.is_source reads

  file_is : guarded.g ≡ file_of n
  file_is = tallied.reading.only guarded.g guarded.text_of_g.reading.reads

  guard_model_is : tallied.model ≡ guarded.guards.shaped.guard_model
  guard_model_is = same_model tallied.model guarded.guards.shaped.guard_model (main_model (file_of n)) tallied.is_model (ap main_model (sym file_is) ∙ guarded.guards.shaped.is_guard_model)

  source_model_is : made.from.m ≡ guarded.guards.shaped.source_model
  source_model_is = same_model made.from.m guarded.guards.shaped.source_model (main_model source) made.from.is_main (ap main_model (sym source_is) ∙ guarded.guards.shaped.is_source_model)

  words_are : guarded.guards.shaped.layout ≡ l
  words_are =
      one_layout made.from.m s guarded.guards.shaped.layout made.from.l made.no_fault
      (subst (λ (k : Settings). IsLayout made.from.m k guarded.guards.shaped.layout) settings_are
      (subst (λ (m : Model). IsLayout m guarded.s guarded.guards.shaped.layout) (sym source_model_is) guarded.guards.shaped.is_layout))
      made.from.is_layout
      ∙ made.layout_is

  is_tally : IsTally guarded.g guarded.source guarded.s guarded.guards.shaped.layout xs cycle (tally_in t.outcomes)
  is_tally =
      rw (words_are, settings_are, source_is, file_is)
      (tally_of_machine (file_of n) source s made.from.m machine l xs cycle (tally_in t.outcomes) made.from.is_main
      (subst (λ (k : Machine). IsMachineOf source s.library made.from.m k) made.machine_is made.from.elaborated.machine) tallied.outcomes)

  is_clean : IsClean guarded.s.mode (tally_in t.outcomes)
  is_clean =
      clean_tally guarded.g guarded.source guarded.s guarded.s.bound (IsSteady guarded.s.bound) guarded.guards
      (λ a. within_is_steady_list guarded.s.bound _ (one_is_within guarded.s.bound (some_bound settings guarded.s guarded.is_settings) a))
      (subst (λ (k : Settings). IsCode k.code) (sym settings_are) made.from.is_code) xs cycle (tally_in t.outcomes) is_tally

  as_many_inputs : machine.inputs ≡ length (data_inputs guarded.guards.shaped.source_model)
  as_many_inputs = ap (λ (k : Machine). k.inputs) (sym made.machine_is) ∙ made.from.elaborated.machine.inputs ∙ ap (λ (m : Model). length (data_inputs m)) source_model_is

  are_cells : t.cells ≡ length (cell_nets guarded.guards.shaped.guard_model)
  are_cells = tallied.cells ∙ ap (λ (m : Model). length (cell_nets m)) guard_model_is

  -- two runs for each cell
  add_up : total (tally_in t.outcomes) ≡ 2 * t.cells
  add_up =
      all_cells (file_of n) s.code l (length machine.outputs) s.mode s.bound xs tallied.outcomes.outs cycle tallied.model (tally_in t.outcomes) tallied.is_model tallied.outcomes.sorted
      ∙ ap (λ (c : ℕ). 2 * c) (sym tallied.cells)

  pub campaign_text : IsCampaignText settings netlist stimulus (lines_of t ++ text_of n.unknown_inits (file_of n)) cycle (λ t. IsSteady t)
  campaign_text = record {
    cells = t.cells;
    tally = tally_in t.outcomes;
    guard_text = text_of n.unknown_inits (file_of n);
    written = refl;
    guarded = guarded;
    xs = xs;
    is_stream = subst (λ (inputs : ℕ). stimulus_of inputs stimulus ≡ Ok xs) as_many_inputs is_stream;
    is_tally = is_tally;
    are_cells = are_cells;
    add_up = add_up;
    none_wrong = none_wrong guarded.s.mode (tally_in t.outcomes) is_clean;
    none_decoded = none_decoded guarded.s.mode (tally_in t.outcomes) is_clean;
    none_alarmed = none_alarmed guarded.s.mode (tally_in t.outcomes) is_clean;
  }
