-- An answer is determined by the file, want of memory aside.
use Rattle.std.proofs.Common.{◌≡◌, refl, Option, Some, None, Result, Ok, Err, OnOk, IfErr, IfSome, IsOkUnless, MatchResult}
use Rattle.netlist_spec.specs.Netlist.{File}
use Rattle.netlist_spec.specs.Covers.{Library}
use Rattle.netlist_spec.specs.Sound.{IsSound}
use Rattle.netlist_spec.specs.SoundFaults.{SoundFault, IsRefusedWith}
use Rattle.source_check.specs.declared.fault.ElabFault.{ElabFault}
use Rattle.source_check.specs.declared.fault.ElabFault.TheVariants.{NoMemory}
use Rattle.source_check.specs.declared.types.Checked.{Checked}
use Rattle.source_check.specs.Faults.{fault_of, HasNoRefusal, IsOnlyRefusal}

module _ (file : File) (library : Library) where
  pub accepted : (result : Result Checked ElabFault) → ((fault : SoundFault) → IsSound file library → IsRefusedWith file library fault → ⊥)
      → IfErr result (λ fault. IfSome (fault_of fault) (IsRefusedWith file library)) → IsSound file library → IsOkUnless result NoMemory
  accepted (Ok c) never refused sound = tt
  accepted (Err NoMemory) never refused sound = refl
  accepted (Err fault) never refused sound = absurd (never _ sound refused)

  pub told : (result : Result Checked ElabFault) → ((fault : SoundFault) → IsSound file library → IsRefusedWith file library fault → ⊥)
      → ((fault other : SoundFault) → IsRefusedWith file library fault → IsRefusedWith file library other → fault ≡ other)
      → OnOk result (IsSound file library) → IfErr result (λ fault. IfSome (fault_of fault) (IsRefusedWith file library))
      → (fault : SoundFault) → IsRefusedWith file library fault → MatchResult result (λ c. ⊥) (λ other. IfSome (fault_of other) (λ told. told ≡ fault))
  told (Ok c) never once sound refused fault f = never fault sound f
  told (Err NoMemory) never once sound refused fault f = tt
  told (Err other) never once sound refused fault f = once _ fault refused f

  only : ((fault : SoundFault) → IsSound file library → IsRefusedWith file library fault → ⊥)
      → ((fault other : SoundFault) → IsRefusedWith file library fault → IsRefusedWith file library other → fault ≡ other)
      → (found : Option SoundFault) → IfSome found (IsRefusedWith file library) → IfSome found (IsOnlyRefusal file library)
  only never once None refused = tt
  only never once (Some fault) refused = record { refused = refused; only = λ other f. once other fault f refused; not_sound = λ sound. never fault sound refused }

  pub decided : (result : Result Checked ElabFault) → ((fault : SoundFault) → IsSound file library → IsRefusedWith file library fault → ⊥)
      → ((fault other : SoundFault) → IsRefusedWith file library fault → IsRefusedWith file library other → fault ≡ other)
      → OnOk result (IsSound file library) → IfErr result (λ fault. IfSome (fault_of fault) (IsRefusedWith file library))
      → MatchResult result (λ c. IsSound file library × HasNoRefusal file library) (λ fault. IfSome (fault_of fault) (IsOnlyRefusal file library))
  decided (Ok c) never once sound refused = (sound, λ fault f. never fault sound f)
  decided (Err fault) never once sound refused = only never once (fault_of fault) refused
