-- What is said of the bytes that `campaign` and `demo` write.
use Rattle.std.specs.Prelude.{◌≡◌, ℕ, ◌+◌, ◌*◌, List, ◌++◌, Ok, length}
use Rattle.netlist_spec.specs.Netlist.{File}
use Rattle.netlist_spec.specs.Reads.{Reads}
use Rattle.netlist_spec.specs.Models.{data_inputs, latches_of}
use Rattle.netlist_spec.specs.SourceRun.{Stream}
use Rattle.netlist_spec.specs.Runs.{Fault}
use Rattle.netlist_spec.specs.Ordered.{cell_nets}
use Rattle.stimulus_spec.specs.Stimulus.{stimulus_of}
use Rattle.guard_spec.specs.Codes.{detect, correct}
use Rattle.guard_spec.specs.Containment.{IsGuard}
use Rattle.guard_spec.specs.Plain.{IsPlain}
use Rattle.guard_spec.specs.Tally.{Tally, IsTally}
use Rattle.guard_text_spec.specs.GuardText.{IsGuardText}
use Rattle.program_spec.specs.Printed.{tally_text, demo_text}
use Rattle.program_spec.specs.Demo.{demo_netlist, demo_settings, demo_stream, demo_cycle}
use Rattle.netlist_spec.specs.WrittenText.{IsTextOf}

-- What `campaign` writes: the five lines of a tally, and then the text of a guard. The tally is that of this guard, on the
-- stream of the stimulus and for the source and the words for which it is a guard. No run is wrong, none is decoded in
-- detection, and none is alarmed in correction.
pub record IsCampaignText (settings netlist stimulus text : List ℕ) (cycle : ℕ) (allowed : ℕ → List Fault → Type 0) : Type 0 where
  pub cells : ℕ
  pub tally : Tally
  pub guard_text : List ℕ
  pub written : text ≡ tally_text cells tally ++ guard_text
  pub guarded : IsGuardText settings netlist guard_text allowed
  pub xs : Stream
  pub is_stream : stimulus_of (length (data_inputs guarded.guards.shaped.source_model)) stimulus ≡ Ok xs
  pub is_tally : IsTally guarded.g guarded.source guarded.s guarded.guards.shaped.layout xs cycle tally
  pub are_cells : cells ≡ length (cell_nets guarded.guards.shaped.guard_model)
  -- two runs for each cell
  pub add_up : tally.right + tally.alarmed + tally.decoded + tally.wrong ≡ 2 * cells
  pub none_wrong : tally.wrong ≡ 0
  pub none_decoded : guarded.s.mode ≡ detect → tally.decoded ≡ 0
  pub none_alarmed : guarded.s.mode ≡ correct → tally.alarmed ≡ 0

-- What `demo` writes for n: the numbers of statements and of latches of the design, its plain size, and the five lines of
-- the tally of a guard of it, in detection. That guard has a text of which it is the one reading. No run is wrong or decoded.
pub record IsDemoText (n : ℕ) (text : List ℕ) (allowed : ℕ → List Fault → Type 0) : Type 0 where
  pub cells : ℕ
  pub tally : Tally
  pub written : text ≡ demo_text (13 * n) (4 * n) (4720 * n + 4) ++ tally_text cells tally
  pub source : File
  pub is_source : Reads (demo_netlist n) source
  pub guard_text : List ℕ
  pub g : File
  pub text_of_g : IsTextOf guard_text source g
  pub guards : IsGuard g source demo_settings (allowed demo_settings.bound)
  pub statements : length guards.shaped.source_model.statements ≡ 13 * n
  pub latches : length (latches_of guards.shaped.source_model) ≡ 4 * n
  pub plain : IsPlain source demo_settings.library guards.shaped.source_model demo_settings.code demo_settings.mode demo_settings.bound guards.shaped.layout (4720 * n + 4)
  pub is_tally : IsTally g source demo_settings guards.shaped.layout (demo_stream n) demo_cycle tally
  pub are_cells : cells ≡ length (cell_nets guards.shaped.guard_model)
  pub add_up : tally.right + tally.alarmed + tally.decoded + tally.wrong ≡ 2 * cells
  pub none_wrong : tally.wrong ≡ 0
  pub none_decoded : tally.decoded ≡ 0
