-- What a text keeps of what its gate list keeps.
use Rattle.std.specs.Prelude.{ℕ}
use Rattle.netlist_spec.specs.Netlist.{Model, File}
use Rattle.netlist_spec.specs.Covers.{Library}
use Rattle.netlist_spec.specs.Gates.{Machine}
use Rattle.guard_spec.specs.Codes.{Code}
use Rattle.guard_spec.specs.Words.{Layout}
use Rattle.netlist_spec.specs.Runs.{IsWithin, IsSteady, IsMoving}
use Rattle.guard_spec.specs.Contained.{IsFaithful, Detects, Corrects}
use Rattle.guard_spec.specs.Dual.{ContainsTwice}
use Rattle.guard_spec.specs.Regions.{Guarded}
use Rattle.containment.specs.Nets.{AreWithin, AreSteady, AreMoving}
use Rattle.containment.specs.OnGates.{IsFaithfulOnGates, DetectsOnGates, CorrectsOnGates}
use Rattle.containment.specs.Far.{ContainsTwiceOnGates}

-- What the gate list g keeps beside the machine of the source, the text of g keeps beside the source.
pub record KeepsAsText (text source : File) (library : Library) (m : Model) (machine : Machine) (g : Guarded) (code : Code) (l : Layout) : Type 0 where
  pub faithful : IsFaithfulOnGates g machine code l → IsFaithful text source library m code l
  pub detects_within : (t : ℕ) → DetectsOnGates g machine code l (AreWithin t) → Detects text source library m code l (IsWithin t)
  pub detects_steady : (t : ℕ) → DetectsOnGates g machine code l (AreSteady t) → Detects text source library m code l (IsSteady t)
  pub detects_moving : (t : ℕ) → DetectsOnGates g machine code l (AreMoving t) → Detects text source library m code l (IsMoving t)
  pub corrects_within : (t : ℕ) → CorrectsOnGates g machine code l t (AreWithin t) → Corrects text source library m code l t (IsWithin t)
  pub corrects_steady : (t : ℕ) → CorrectsOnGates g machine code l t (AreSteady t) → Corrects text source library m code l t (IsSteady t)
  pub corrects_moving : (t : ℕ) → CorrectsOnGates g machine code l t (AreMoving t) → Corrects text source library m code l t (IsMoving t)
  pub contains_twice : (t s : ℕ) → ContainsTwiceOnGates g machine code l t s → ContainsTwice text source library m code l t s
