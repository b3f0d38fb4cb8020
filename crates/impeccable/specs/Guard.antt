-- What a source is refused with that isn't guarded by its settings.
use Rattle.program_spec.specs.Refusals.{Refusal, unsound, bad_layout, guard_too_large}
use Rattle.guard_source.specs.Accepted.{GuardRefusal, unsound as is_unsound, bad_layout as is_laid_out_badly, guard_too_large as is_too_large}

abbrev pub guard_told : GuardRefusal → Refusal
guard_told (is_unsound fault) = unsound fault
guard_told (is_laid_out_badly fault) = bad_layout fault
guard_told is_too_large = guard_too_large
