-- What is said of the bytes that a guard is written as.
use Rattle.std.specs.Prelude.{◌≡◌, ℕ, List, length, Ok}
use Rattle.netlist_spec.specs.Netlist.{File}
use Rattle.netlist_spec.specs.Models.{output_nets}
use Rattle.netlist_spec.specs.Reads.{Reads}
use Rattle.netlist_spec.specs.Runs.{Fault}
use Rattle.netlist_spec.specs.WrittenText.{IsTextOf}
use Rattle.guard_spec.specs.Codes.{rail_count}
use Rattle.guard_spec.specs.Words.{Settings}
use Rattle.guard_spec.specs.Rails.{IsNoCodeword, RailsTellIn}
use Rattle.guard_spec.specs.SettingsFile.{settings_of_bytes}
use Rattle.guard_spec.specs.Containment.{IsGuard}

-- What `guard` writes for settings and a source: a text with one reading, which is a guard of the source for the
-- fault lists that are allowed with the bound, and whose rails tell where a word is no codeword.
pub record IsGuardText (settings netlist text : List ℕ) (allowed : ℕ → List Fault → Type 0) : Type 0 where
  pub s : Settings
  pub is_settings : settings_of_bytes settings ≡ Ok s
  pub source : File
  pub is_source : Reads netlist source
  pub g : File
  pub text_of_g : IsTextOf text source g
  pub guards : IsGuard g source s (allowed s.bound)
  -- In every cycle, whatever is stored and whatever other cells are faulty: a rail of which no cell is faulty is 1 exactly
  -- where some state word, as its latches show it, or some output word is no codeword. (In correction there are no rails.)
  pub tells :
      RailsTellIn guards.shaped.guard_model s.code guards.shaped.layout (length (output_nets guards.shaped.source_model)) (rail_count s.mode s.bound) (IsNoCodeword s.code)
