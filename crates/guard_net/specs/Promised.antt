-- What a guard in detection keeps, all of it for the same regions.
use Rattle.std.specs.Prelude.{ℕ, ◌+◌, ◌<◌, length}
use Rattle.netlist_spec.specs.Gates.{Machine}
use Rattle.guard_spec.specs.Codes.{Code, IsDistance, detect}
use Rattle.guard_spec.specs.Rails.{RailsTell}
use Rattle.guard_spec.specs.Regions.{Guarded}
use Rattle.guard_spec.specs.Words.{Layout}
use Rattle.containment.specs.Built.{IsBuilt}
use Rattle.containment.specs.Nets.{AreSteady}
use Rattle.containment.specs.OnGates.{DetectsOnGates, IsFaithfulOnGates}
use Rattle.guard_laws.specs.Promised.{IsGuardOf}

-- A guard of a source's machine with t + 1 rails. It is made as a guard is, whatever the radius within which state words
-- are read, so a cell changes no bit but its own. A rail without a faulty cell is 1 exactly where a word is no codeword.
-- Without faults it gives the source's outputs and no alarm. Where the code's distance is above t, then with faults in
-- at most t cells, in any cycles, every output up to each cycle is right or a rail is up by then.
pub record IsDetectingGuard (g : Guarded) (source : Machine) (code : Code) (t : ℕ) (l : Layout) : Type 0 where
  pub guard : (radius : ℕ) → IsGuardOf g source code detect radius (t + 1) l
  pub built : (radius : ℕ) → IsBuilt g source code detect radius l
  pub tells : RailsTell g code l (length source.outputs)
  pub faithful : (d : ℕ) → IsDistance code d → IsFaithfulOnGates g source code l
  pub detects : (d : ℕ) → IsDistance code d → t < d → DetectsOnGates g source code l (AreSteady t)
