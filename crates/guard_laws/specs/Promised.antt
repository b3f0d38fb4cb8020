-- What the builder of a guard promises of its gate list.
use Rattle.std.specs.Prelude.{◌≡◌, ℕ, ◌+◌, ◌*◌, ◌≤◌, length, map}
use Rattle.netlist_spec.specs.Gates.{Machine, IsMachine}
use Rattle.guard_spec.specs.Codes.{Code, Mode, detect}
use Rattle.guard_spec.specs.Words.{Layout, codewords}
use Rattle.guard_spec.specs.Plain.{IsMachineSizeWith}
use Rattle.guard_spec.specs.Regions.{Guarded, CoversGates, HaveOwnNets, AreSeparate, ReadDataAlone}
use Rattle.containment.specs.RegionAnswers.{RegionsAnswer, RailsAnswer}

-- latches and gates
abbrev pub cell_count : Guarded → ℕ
cell_count g = length g.machine.latches + length g.machine.net.gates

-- A guard of a source's machine, with state words read within a radius and with so many rails: what each of its regions
-- reads and answers alone, where its latches start, which outputs it has, and how large it is.
pub record IsGuardOf (g : Guarded) (source : Machine) (code : Code) (mode : Mode) (radius rails : ℕ) (l : Layout) : Type 0 where
  pub is_machine : IsMachine g.machine
  pub own_nets : HaveOwnNets g source
  pub covers : CoversGates g
  pub separate : AreSeparate g
  pub reads : mode ≡ detect → ReadDataAlone g code l.state
  pub outputs : length g.machine.outputs ≡ (length source.outputs + length l.output * code.columns) + g.rails
  pub rail_number : g.rails ≡ rails
  pub inits : map (λ r. r.init) g.machine.latches ≡ codewords code l.state (map (λ r. r.init) source.latches)
  pub answers : RegionsAnswer g source code mode radius l
  pub tells : RailsAnswer g code l (length source.outputs)
  pub size : (n : ℕ) → IsMachineSizeWith source code mode radius rails l n → cell_count g ≤ n
