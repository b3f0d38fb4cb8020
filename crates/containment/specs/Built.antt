-- What the builder of a guard promises of its gate list.
use Rattle.std.specs.Prelude.{◌≡◌, ℕ, ◌+◌, ◌*◌, length, map}
use Rattle.netlist_spec.specs.Gates.{Machine, IsMachine}
use Rattle.guard_spec.specs.Codes.{Code, data_places, Mode, IsCode, IsDistance}
use Rattle.guard_spec.specs.Words.{Layout, IsPartition, codewords}
use Rattle.guard_spec.specs.Regions.{Guarded, CoversGates}
use Rattle.guard_spec.specs.Count.{Counts}
use Rattle.guard_spec.specs.Rails.{RailsTell, FarRailsTell}

-- A code of distance d, and words over the latches and the outputs of a source.
pub record IsCoded (source : Machine) (code : Code) (d : ℕ) (l : Layout) : Type 0 where
  pub is_code : IsCode code
  pub is_distance : IsDistance code d
  pub state_words : IsPartition (length source.latches) (data_places code) l.state
  pub output_words : IsPartition (length source.outputs) (data_places code) l.output

-- A guard's gate list for a source, with state words read within a radius: it has the data inputs of the source, each
-- cell belongs to one bit, the outputs are the source's, the check outputs and the rails, the latches start at the
-- codewords of the source's inits, and a cell changes no bit but its own. What rails tell is said apart, by `RailsTell`.
pub record IsBuilt (g : Guarded) (source : Machine) (code : Code) (mode : Mode) (radius : ℕ) (l : Layout) : Type 0 where
  pub is_machine : IsMachine g.machine
  pub inputs : g.machine.inputs ≡ source.inputs
  pub covers : CoversGates g
  pub outputs : length g.machine.outputs ≡ (length source.outputs + length l.output * code.columns) + g.rails
  pub inits : map (λ r. r.init) g.machine.latches ≡ codewords code l.state (map (λ r. r.init) source.latches)
  pub counts : Counts g source code mode radius l

-- A guard's gate list that was built for a source and for words of a code.
pub record IsCodedGuard (g : Guarded) (source : Machine) (code : Code) (d : ℕ) (mode : Mode) (radius : ℕ) (l : Layout) : Type 0 where
  pub coded : IsCoded source code d l
  pub built : IsBuilt g source code mode radius l

-- One of which the rails tell of words that are no codewords.
pub record IsTellingGuard (g : Guarded) (source : Machine) (code : Code) (d : ℕ) (mode : Mode) (radius : ℕ) (l : Layout) : Type 0 where
  pub coded : IsCoded source code d l
  pub built : IsBuilt g source code mode radius l
  pub tells : RailsTell g code l (length source.outputs)

-- One of which the rails tell of words that are more than t places apart from every codeword.
pub record IsFarTellingGuard (g : Guarded) (source : Machine) (code : Code) (d : ℕ) (mode : Mode) (radius : ℕ) (l : Layout) (t : ℕ) : Type 0 where
  pub coded : IsCoded source code d l
  pub built : IsBuilt g source code mode radius l
  pub tells : FarRailsTell g code l (length source.outputs) t
