-- The first of several faults.
use Rattle.std.proofs.Common.{◌≡◌, refl, sym, ◌∙◌, ap, Option, Some, None}
use Rattle.std.specs.Option.{option_or}
use Rattle.netlist_spec.specs.Netlist.{Name}
use Rattle.guard_spec.specs.Words.{LayoutFault, as_fault}
use Rattle.encode_state.specs.Faults.{IsFault}

pub first_fault : (a b told : Option LayoutFault) → IsFault a told → IsFault (option_or a b) told
first_fault a b None is = tt
first_fault None b (Some f) is = absurd (cc is)
first_fault (Some g) b (Some f) is = is

pub later_fault : (a b told : Option LayoutFault) → a ≡ None → IsFault b told → IsFault (option_or a b) told
later_fault None b told none is = is
later_fault (Some f) b told none is = absurd (cc none)

pub no_fault : (fault : Name → LayoutFault) (o : Option Name) → o ≡ None → as_fault fault o ≡ None
no_fault fault None none = refl
no_fault fault (Some n) none = absurd (cc none)

pub neither : (a b : Option LayoutFault) → a ≡ None → b ≡ None → option_or a b ≡ None
neither None b e f = f
neither (Some x) b e f = absurd (cc e)

-- a fault of the same name
pub same_fault : (fault : Name → LayoutFault) (a b : Option Name) (told : Option LayoutFault) → a ≡ b → IsFault (as_fault fault b) told → IsFault (as_fault fault a) told
same_fault fault a b None e is = tt
same_fault fault a b (Some f) e is = ap (as_fault fault) e ∙ is

-- a fault of a name that is found in a part
pub fault_within : (fault : Name → LayoutFault) (a b : Option Name) (told : Option LayoutFault) → ((n : Name) → a ≡ Some n → b ≡ Some n) → IsFault (as_fault fault a) told → IsFault (as_fault fault b) told
fault_within fault a b None found is = tt
fault_within fault None b (Some f) found is = absurd (cc is)
fault_within fault (Some n) b (Some f) found is = ap (as_fault fault) (found n refl) ∙ is
