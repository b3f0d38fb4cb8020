use Rattle.std.proofs.Common.{◌≡◌, refl, Ok}
use Rattle.std.specs.Str.{chars, is_utf8}
use Rattle.toml.proofs.OnLiterals.{toml_on_literals}
use Rattle.guard_spec.specs.SettingsFile.{settings_of_bytes}
use Rattle.spec_examples.specs.Examples.{inverter_text, inverter_file, parity_settings}
use Rattle.spec_examples.specs.Toggle.{toggle_named}
use Rattle.spec_examples.proofs.Small.{inverter_reads}
use Rattle.guard_laws.proofs.Texts.{guarding_text}
use Rattle.law_examples.specs.ParityText.{parity_text}
use Rattle.law_examples.proofs.ToggleGuard.{toggle_from}
use Rattle.law_examples.proofs.guards.small_texts_are_guard_texts.Goals as goal

parity_is_read : settings_of_bytes parity_text ≡ Ok parity_settings
unfolding toml_on_literals settings_of_bytes is_utf8 chars
parity_is_read = refl

pub returns : goal.returns
returns c = guarding_text parity_text inverter_text inverter_file parity_settings toggle_named parity_is_read inverter_reads toggle_from
