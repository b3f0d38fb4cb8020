-- What the naming of a guard starts from.
use Rattle.std.specs.Prelude.{ℕ, List}
use Rattle.netlist_spec.specs.GateRanges.{Region}
use Rattle.netlist_spec.specs.Elaborated.{Elaborated}
use Rattle.guard_spec.specs.Codes.{Code, Mode}
use Rattle.guard_spec.specs.Words.{Layout}
use Rattle.guard_spec.specs.Regions.{Guarded}
use Rattle.gate_net.specs.Machine.{machine_of}
use Rattle.guard_laws.specs.Promised.{IsGuardOf}
use Rattle.guard_names.specs.declared.named.GuardNets.{GuardNets}

-- the nets of a guard, with its data inputs and its regions
abbrev pub guarded_of : GuardNets → ℕ → List Region → Guarded
guarded_of g inputs regions =
    record {
      machine = machine_of g.net inputs g.latches.items g.outputs.items;
      rails = g.rails;
      regions = regions;
    }

-- The nets are those of a guard of the elaborated source, for some regions.
pub record IsToName (g : GuardNets) (e : Elaborated) (code : Code) (l : Layout) : Type 0 where
  pub regions : List Region
  pub mode : Mode
  pub radius : ℕ
  pub guard : IsGuardOf (guarded_of g e.machine.inputs regions) e.machine code mode radius g.rails l
