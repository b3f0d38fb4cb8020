-- Every named refusal of the program.
use Rattle.std.specs.Prelude.{ℕ, List}
use Rattle.netlist_spec.specs.ReadFaults.{ReadFault}
use Rattle.guard_spec.specs.SettingsFile.{SettingsFault}
use Rattle.netlist_spec.specs.SoundFaults.{SoundFault}
use Rattle.guard_spec.specs.Words.{LayoutFault}
use Rattle.netlist_spec.specs.Ordered.{OrderFault}
use Rattle.stimulus_spec.specs.Stimulus.{ScriptFault}

pub data Refusal : Type 0 where
  file_too_long : (name : List ℕ) → Refusal
  unreadable : (fault : ReadFault) → Refusal
  bad_settings : (fault : SettingsFault) → Refusal
  too_small : (d need : ℕ) → Refusal
  unsound : (fault : SoundFault) → Refusal
  bad_layout : (fault : LayoutFault) → Refusal
  guard_too_large : Refusal
  out_of_order : (fault : OrderFault) → Refusal
  bad_stimulus : (line : ℕ) → Refusal
  bad_script_line : (fault : ScriptFault) → Refusal
