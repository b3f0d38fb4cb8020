-- What the faults stand for.
use Rattle.std.specs.Prelude.{◌≡◌, Option, None, Some}
use Rattle.netlist_spec.specs.Netlist.{File}
use Rattle.netlist_spec.specs.Covers.{Library}
use Rattle.netlist_spec.specs.Sound.{IsSound}
use Rattle.netlist_spec.specs.SoundFaults.{SoundFault, twice, no_such_model, bad_port, recursion, latch_inside, too_deep, undriven, bad_clocking, loop, reserved, too_large, IsRefusedWith}
use Rattle.imp_text.specs.Quantities.{quantity_of}
use Rattle.source_check.specs.declared.fault.ElabFault.{ElabFault}
use Rattle.source_check.specs.declared.fault.ElabFault.TheVariants.{Twice, NoSuchModel, BadPort, Recursion, LatchInside, Depth, Undriven, Clocking, Loop, Reserved, TooLarge, NoMemory}

-- the refusal, and none for want of memory
abbrev pub fault_of : ElabFault → Option SoundFault
fault_of (Twice net) = Some (twice net)
fault_of (NoSuchModel name) = Some (no_such_model name)
fault_of (BadPort model formal) = Some (bad_port model formal)
fault_of (Recursion model) = Some (recursion model)
fault_of (LatchInside model) = Some (latch_inside model)
fault_of (Depth model) = Some (too_deep model)
fault_of (Undriven net) = Some (undriven net)
fault_of (Clocking net) = Some (bad_clocking net)
fault_of (Loop nets) = Some (loop nets)
fault_of (Reserved name) = Some (reserved name)
fault_of (TooLarge what) = Some (too_large (quantity_of what))
fault_of NoMemory = None

abbrev pub HasNoRefusal : File → Library → Type 0
HasNoRefusal file library = (fault : SoundFault) → IsRefusedWith file library fault → ⊥

-- The file has this refusal, no other one, and no meaning.
pub record IsOnlyRefusal (file : File) (library : Library) (fault : SoundFault) : Type 0 where
  pub refused : IsRefusedWith file library fault
  pub only : (other : SoundFault) → IsRefusedWith file library other → other ≡ fault
  pub not_sound : IsSound file library → ⊥
