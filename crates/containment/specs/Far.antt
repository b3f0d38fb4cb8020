-- Guards that correct few faults and report more, on gate lists.
use Rattle.std.specs.Prelude.{ℕ, ◌<◌, length}
use Rattle.netlist_spec.specs.Gates.{Machine}
use Rattle.guard_spec.specs.Codes.{Code}
use Rattle.guard_spec.specs.Words.{Layout}
use Rattle.guard_spec.specs.Contained.{at_cycle, DecodesAt}
use Rattle.guard_spec.specs.Dual.{DecodesOrTells}
use Rattle.containment.specs.Nets.{AreSteady}
use Rattle.containment.specs.OnGates.{UnderNetFaults}
use Rattle.guard_spec.specs.Regions.{Guarded}

-- Under at most t fixed cells each output word decodes in every cycle; under at most s it does so in all cycles up to
-- each one, or a rail is up by then.
pub record ContainsTwiceOnGates (g : Guarded) (source : Machine) (code : Code) (l : Layout) (t s : ℕ) : Type 0 where
  pub corrects : UnderNetFaults g source (AreSteady t) (λ faults cycles states outs stored zs. (c : ℕ) → c < cycles → DecodesAt code l (length source.outputs) t (at_cycle outs c) (at_cycle zs c))
  pub detects : UnderNetFaults g source (AreSteady s) (λ faults cycles states outs stored zs. DecodesOrTells code l (length source.outputs) t cycles outs zs)
