-- What the faults stand for.
use Rattle.std.specs.Prelude.{Option, None, Some}
use Rattle.std.specs.Option.{option_map}
use Rattle.source_check.specs.Faults.{fault_of as sound_fault_of}
use Rattle.encode_state.specs.Faults.{fault_of as layout_fault_of}
use Rattle.guard_source.specs.Accepted.{GuardRefusal, unsound, bad_layout, guard_too_large}
use Rattle.guard_source.specs.declared.fault.GuardFault.{GuardFault}
use Rattle.guard_source.specs.declared.fault.GuardFault.TheVariants.{Elab, Words, TooLarge, NoMemory}

-- the refusal, and none for want of memory
abbrev pub refusal_of : GuardFault → Option GuardRefusal
refusal_of (Elab fault) = option_map (λ f. unsound f) (sound_fault_of fault)
refusal_of (Words fault) = option_map (λ f. bad_layout f) (layout_fault_of fault)
refusal_of TooLarge = Some guard_too_large
refusal_of NoMemory = None
