-- A fault that stands for no refusal is want of memory.
use Rattle.std.proofs.Common.{◌≡◌, refl, sym, ◌∙◌, ◌⊎◌, inl, inr, Option, None, Some}
use Rattle.netlist_spec.specs.ReadFaults.{ReadFault}
use Rattle.blif_read.specs.Faults.{fault_of as read_fault_of, IsFault as IsReadFault}
use Rattle.blif_read.specs.declared.fault.BlifFault.{BlifFault}
use Rattle.blif_read.specs.declared.fault.BlifFault.TheVariants.{UnknownStatement, BadRow, MixedCover, BadLatch, NoModel, LongName, TooMany, TwiceModel, BadSubckt, AfterEnd, WordCount, NoMemory}
use Rattle.source_check.specs.declared.fault.ElabFault.{ElabFault}
use Rattle.source_check.specs.declared.fault.ElabFault.TheVariants.{Twice, NoSuchModel, BadPort, Recursion, LatchInside, Depth, Undriven, Clocking, Loop, Reserved, TooLarge as TooMuch, NoMemory as NoSourceMemory}
use Rattle.encode_state.specs.declared.fault.LayoutFault.{LayoutFault}
use Rattle.encode_state.specs.declared.fault.LayoutFault.TheVariants.{NoSuchNet, InTwoWords, NotInAWord, NoMemory as NoLayoutMemory}
use Rattle.guard_source.specs.Faults.{refusal_of}
use Rattle.guard_source.specs.declared.fault.GuardFault.{GuardFault}
use Rattle.guard_source.specs.declared.fault.GuardFault.TheVariants.{Elab, Words, TooLarge, NoMemory as NoGuardMemory}

some_is_not_none : {A : Type 0} (a : A) (expected : Option A) → expected ≡ None → expected ≡ Some a → ⊥
some_is_not_none a expected none some = let e : None ≡ Some a = sym none ∙ some in cc

none_told : (expected told : Option ReadFault) → expected ≡ None → IsReadFault expected told → told ≡ None
none_told expected None none is = refl
none_told expected (Some fault) none is = absurd (some_is_not_none fault expected none is)

want_of_memory : (fault : BlifFault) → read_fault_of fault ≡ None → fault ≡ NoMemory
want_of_memory NoMemory e = refl
want_of_memory (UnknownStatement line word) e = cc e
want_of_memory (BadRow line) e = cc e
want_of_memory (MixedCover line) e = cc e
want_of_memory (BadLatch line) e = cc e
want_of_memory (NoModel line) e = cc e
want_of_memory (LongName line) e = cc e
want_of_memory (TooMany line what) e = cc e
want_of_memory (TwiceModel line name) e = cc e
want_of_memory (BadSubckt line) e = cc e
want_of_memory (AfterEnd line) e = cc e
want_of_memory (WordCount line) e = cc e

pub only_memory : (expected : Option ReadFault) (fault : BlifFault) → expected ≡ None → IsReadFault expected (read_fault_of fault) → fault ≡ NoMemory
only_memory expected fault none is = want_of_memory fault (none_told expected (read_fault_of fault) none is)

-- of a guard: that of its own, of the check of the source, or of its words
abbrev pub IsWant : GuardFault → Type 0
IsWant fault = (fault ≡ NoGuardMemory) ⊎ ((fault ≡ Elab NoSourceMemory) ⊎ (fault ≡ Words NoLayoutMemory))

pub guard_wants : (fault : GuardFault) → refusal_of fault ≡ None → IsWant fault
guard_wants NoGuardMemory e = inl refl
guard_wants TooLarge e = absurd (cc e)
guard_wants (Elab NoSourceMemory) e = inr (inl refl)
guard_wants (Elab (Twice net)) e = absurd (cc e)
guard_wants (Elab (NoSuchModel name)) e = absurd (cc e)
guard_wants (Elab (BadPort model formal)) e = absurd (cc e)
guard_wants (Elab (Recursion model)) e = absurd (cc e)
guard_wants (Elab (LatchInside model)) e = absurd (cc e)
guard_wants (Elab (Depth model)) e = absurd (cc e)
guard_wants (Elab (Undriven net)) e = absurd (cc e)
guard_wants (Elab (Clocking net)) e = absurd (cc e)
guard_wants (Elab (Loop nets)) e = absurd (cc e)
guard_wants (Elab (Reserved name)) e = absurd (cc e)
guard_wants (Elab (TooMuch what)) e = absurd (cc e)
guard_wants (Words NoLayoutMemory) e = inr (inr refl)
guard_wants (Words (NoSuchNet name)) e = absurd (cc e)
guard_wants (Words (InTwoWords name)) e = absurd (cc e)
guard_wants (Words (NotInAWord name)) e = absurd (cc e)

pub none_of_three : {A B C : Type 0} → A ⊎ (B ⊎ C) → (A → ⊥) → (B → ⊥) → (C → ⊥) → ⊥
none_of_three (inl a) f g h = f a
none_of_three (inr (inl b)) f g h = g b
none_of_three (inr (inr c)) f g h = h c
