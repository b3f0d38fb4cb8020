-- What a guard in correction keeps, all of it for the same regions.
use Rattle.std.specs.Prelude.{ℕ}
use Rattle.netlist_spec.specs.Gates.{Machine}
use Rattle.guard_spec.specs.Codes.{Code, correct}
use Rattle.guard_spec.specs.Regions.{Guarded}
use Rattle.guard_spec.specs.Words.{Layout}
use Rattle.containment.specs.Built.{IsBuilt}
use Rattle.containment.specs.Nets.{AreSteady}
use Rattle.containment.specs.OnGates.{CorrectsOnGates, IsFaithfulOnGates}
use Rattle.guard_laws.specs.Promised.{IsGuardOf}

-- A guard of a source's machine without rails, for a code whose distance is above 2t. It is made as a guard is that reads
-- state words within t, so a cell changes no bit but its own. Without faults it gives the source's outputs. With faults in
-- at most t cells, in any cycles, each output word decodes in every cycle; in a cycle without faulty cells all outputs are
-- right, and behind it the stored words are codewords again.
pub record IsCorrectingGuard (g : Guarded) (source : Machine) (code : Code) (t : ℕ) (l : Layout) : Type 0 where
  pub guard : IsGuardOf g source code correct t 0 l
  pub built : IsBuilt g source code correct t l
  pub faithful : IsFaithfulOnGates g source code l
  pub corrects : CorrectsOnGates g source code l t (AreSteady t)
