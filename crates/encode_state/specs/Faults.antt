-- What the faults stand for.
use Rattle.std.specs.Prelude.{◌≡◌, ⊤, Option, None, Some}
use Rattle.guard_spec.specs.Words.{LayoutFault, no_such_net, in_two_words, not_in_a_word}
use Rattle.encode_state.specs.declared.fault.LayoutFault.{LayoutFault as ToldFault}
use Rattle.encode_state.specs.declared.fault.LayoutFault.TheVariants.{NoSuchNet, InTwoWords, NotInAWord, NoMemory}

-- the fault of a name, and none for want of memory
abbrev pub fault_of : ToldFault → Option LayoutFault
fault_of (NoSuchNet name) = Some (no_such_net name)
fault_of (InTwoWords name) = Some (in_two_words name)
fault_of (NotInAWord name) = Some (not_in_a_word name)
fault_of NoMemory = None

-- A fault other than want of memory is the one that is expected.
abbrev pub IsFault : Option LayoutFault → Option LayoutFault → Type 0
IsFault expected None = ⊤
IsFault expected (Some fault) = expected ≡ Some fault
