-- Sources and settings that are accepted, and what each refusal of the others says.
use Rattle.std.specs.Prelude.{◌≡◌, ℕ, ◌<◌, ◌≤◌, Some, None}
use Rattle.netlist_spec.specs.Netlist.{Model, File}
use Rattle.netlist_spec.specs.Models.{main_model}
use Rattle.netlist_spec.specs.Sound.{IsSound}
use Rattle.netlist_spec.specs.SoundFaults.{SoundFault, IsRefusedWith}
use Rattle.guard_spec.specs.Words.{Settings, Layout, LayoutFault, IsLayout, layout_fault}
use Rattle.guard_spec.specs.Plain.{IsPlain}

-- The file has a meaning with the library of the settings, and m is its main model.
pub record IsTaken (file : File) (s : Settings) (m : Model) : Type 0 where
  pub sound : IsSound file s.library
  pub main : main_model file ≡ Some m

-- and the words of the settings fit, with this layout
pub record IsLaidOut (file : File) (s : Settings) (m : Model) (l : Layout) : Type 0 where
  pub taken : IsTaken file s m
  pub no_fault : layout_fault m s ≡ None
  pub is_layout : IsLayout m s l

-- and the plain size is at most 1,000,000
pub record IsSmall (file : File) (s : Settings) : Type 0 where
  pub m : Model
  pub l : Layout
  pub laid_out : IsLaidOut file s m l
  pub n : ℕ
  pub is_plain : IsPlain file s.library m s.code s.mode s.bound l n
  pub small : n ≤ 1000000

-- why a source isn't guarded
pub data GuardRefusal : Type 0 where
  unsound : (fault : SoundFault) → GuardRefusal
  bad_layout : (fault : LayoutFault) → GuardRefusal
  guard_too_large : GuardRefusal

-- A refusal says that all that stands in front of it passes.
abbrev pub IsRefusedGuard : File → Settings → GuardRefusal → Type 0
IsRefusedGuard file s (unsound fault) = IsRefusedWith file s.library fault
IsRefusedGuard file s (bad_layout fault) = (m : Model) × IsTaken file s m × (layout_fault m s ≡ Some fault)
IsRefusedGuard file s guard_too_large =
    (m : Model) × (l : Layout) × IsLaidOut file s m l
    × ((n : ℕ) × IsPlain file s.library m s.code s.mode s.bound l n × (1000000 < n))
