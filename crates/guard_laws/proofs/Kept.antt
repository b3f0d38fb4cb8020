-- What each region answers alone, the guard keeps in every cycle.
use Rattle.std.proofs.Common.{ℕ, length, arith}
use Rattle.netlist_spec.specs.Gates.{Machine}
use Rattle.guard_spec.specs.Codes.{Code, Mode}
use Rattle.guard_spec.specs.Words.{Layout}
use Rattle.guard_spec.specs.Regions.{Guarded}
use Rattle.guard_spec.specs.Rails.{RailsTell, SomeNoCodeword}
use Rattle.containment.specs.Built.{IsBuilt}
use Rattle.containment.proofs.Regions.{regions_count, rails_count}
use Rattle.guard_laws.specs.Promised.{IsGuardOf}

module _ (g : Guarded) (source : Machine) (code : Code) (mode : Mode) (radius rails : ℕ) (l : Layout) (is : IsGuardOf g source code mode radius rails l) where
  pub built : IsBuilt g source code mode radius l
  built = record {
    is_machine = is.is_machine;
    inputs = is.own_nets.inputs;
    covers = is.covers;
    outputs = is.outputs;
    inits = is.inits;
    counts = regions_count g source is.own_nets code mode radius l is.answers;
  }

  pub telling : RailsTell g code l (length source.outputs)
  telling = rails_count g source is.own_nets (SomeNoCodeword g code l (length source.outputs)) (let e = is.outputs in omega arith) is.tells
