-- What the faults of this crate stand for.
use Rattle.std.specs.Prelude.{◌≡◌, ⊤, Option, None, Some, Result, Err}
use Rattle.guard_spec.specs.SettingsFile.{SettingsFault, not_toml, missing, bad_value, unknown_key, bad_shape}
use Rattle.toml.specs.Data.{Members}
use Rattle.settings.specs.declared.fault.SetFault.{SetFault}
use Rattle.settings.specs.declared.fault.SetFault.TheVariants.{NotToml, Missing, BadValue, UnknownKey, BadShape, NoMemory}

-- the refusal, and none for want of memory
abbrev pub fault_of : SetFault → Option SettingsFault
fault_of NotToml = Some not_toml
fault_of (Missing key) = Some (missing key)
fault_of (BadValue key) = Some (bad_value key)
fault_of (UnknownKey key) = Some (unknown_key key)
fault_of BadShape = Some bad_shape
fault_of NoMemory = None

-- A fault other than want of memory is the one that the definition gives.
abbrev pub IsFault : {A : Type 0} → Result A SettingsFault → Option SettingsFault → Type 0
IsFault expected None = ⊤
IsFault expected (Some fault) = expected ≡ Err fault

-- No document is the fault, unless memory was wanting.
abbrev pub IsNoDocument : Option Members → Option SettingsFault → Type 0
IsNoDocument doc None = ⊤
IsNoDocument doc (Some fault) = (doc ≡ None) × (fault ≡ not_toml)
