use Rattle.std.proofs.Common.{refl}
use Rattle.std.specs.Str.{chars, is_utf8}
use Rattle.toml.proofs.OnLiterals.{toml_on_literals}
use Rattle.guard_spec.specs.SettingsFile.{settings_of_bytes}
use Rattle.spec_examples.proofs.small_settings_are_read.Goals as goal

pub returns-clause-read : goal.returns-clause-read
unfolding toml_on_literals settings_of_bytes is_utf8 chars
returns-clause-read c = refl

pub returns-clause-not_toml : goal.returns-clause-not_toml
unfolding toml_on_literals settings_of_bytes is_utf8 chars
returns-clause-not_toml c = refl

pub returns-clause-missing : goal.returns-clause-missing
unfolding toml_on_literals settings_of_bytes is_utf8 chars
returns-clause-missing c = refl

pub returns-clause-mode : goal.returns-clause-mode
unfolding toml_on_literals settings_of_bytes is_utf8 chars
returns-clause-mode c = refl

pub returns-clause-bound : goal.returns-clause-bound
unfolding toml_on_literals settings_of_bytes is_utf8 chars
returns-clause-bound c = refl

pub returns-clause-unknown : goal.returns-clause-unknown
unfolding toml_on_literals settings_of_bytes is_utf8 chars
returns-clause-unknown c = refl

pub returns-clause-shape : goal.returns-clause-shape
unfolding toml_on_literals settings_of_bytes is_utf8 chars
returns-clause-shape c = refl

pub returns-clause-no_text : goal.returns-clause-no_text
unfolding toml_on_literals settings_of_bytes is_utf8 chars
returns-clause-no_text c = refl
