use Rattle.source_laws.proofs.Tests.{passed_is_sound, finds_nothing, first_is_told, one_driver_each, placements, all_driven}
use Rattle.source_laws.proofs.passed_files_are_sound.Goals as goal

pub returns : goal.returns
returns c = record { sound = passed_is_sound; nothing = finds_nothing; told = first_is_told; drivers = one_driver_each; placements = placements; driven = all_driven }
