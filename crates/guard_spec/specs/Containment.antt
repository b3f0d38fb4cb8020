-- A guard of a source: what it is, what it gives without faults, and what it contains.
use Rattle.std.specs.Prelude.{ℕ, List}
use Rattle.netlist_spec.specs.Netlist.{Model, File}
use Rattle.guard_spec.specs.Codes.{Mode, detect, correct}
use Rattle.guard_spec.specs.Words.{Settings, Layout}
use Rattle.netlist_spec.specs.Runs.{Fault, IsWithin}
use Rattle.netlist_spec.specs.Ordered.{IsOrdered}
use Rattle.netlist_spec.specs.CellBits.{IsIndependent}
use Rattle.guard_spec.specs.Shaped.{IsShapedWithin}
use Rattle.guard_spec.specs.Contained.{IsFaithful, Detects, Corrects}

-- Under every fault list that is allowed the guard detects, or it corrects.
abbrev pub ContainsFaults : Mode → File → File → Settings → Model → Layout → (List Fault → Type 0) → Type 0
ContainsFaults detect g source s m l allowed = Detects g source s.library m s.code l allowed
ContainsFaults correct g source s m l allowed = Corrects g source s.library m s.code l s.bound allowed

-- G is a guard of the source, of at most the size of one that reads its state within a radius: it is ordered, shaped and
-- independent, it gives the source's outputs and no alarm without faults, and contains the faults of the lists that are
-- allowed.
pub record IsGuardFor (g source : File) (s : Settings) (radius : ℕ) (allowed : List Fault → Type 0) : Type 0 where
  pub ordered : IsOrdered g
  pub shaped : IsShapedWithin g source s radius
  pub independent : IsIndependent g
  -- the source's main model and the words are those of the shape
  pub faithful : IsFaithful g source s.library shaped.source_model s.code shaped.layout
  pub contains : ContainsFaults s.mode g source s shaped.source_model shaped.layout allowed

-- The radius is the bound.
abbrev pub IsGuard : File → File → Settings → (List Fault → Type 0) → Type 0
IsGuard g source s allowed = IsGuardFor g source s s.bound allowed

-- At most t cells, all in one and the same cycle, give any bits.
abbrev pub IsGuardWithin : File → File → Settings → Type 0
IsGuardWithin g source s = IsGuard g source s (IsWithin s.bound)
