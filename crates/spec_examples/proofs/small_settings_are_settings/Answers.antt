use Rattle.spec_examples.proofs.SmallSettings.{cipher_is_library, settings_are_settings}
use Rattle.spec_examples.proofs.small_settings_are_settings.Goals as goal

pub returns-clause-settings : goal.returns-clause-settings
returns-clause-settings c = settings_are_settings

pub returns-clause-library : goal.returns-clause-library
returns-clause-library c = cipher_is_library
