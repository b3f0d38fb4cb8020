-- The plain size of a guard of a file's main model, and what it is found from.
use Rattle.std.specs.Prelude.{◌≡◌, ℕ, ◌<◌, ◌≤◌, List, length, map, min, Option, None, Some}
use Rattle.netlist_spec.specs.Netlist.{Model, File}
use Rattle.netlist_spec.specs.Covers.{Library}
use Rattle.netlist_spec.specs.Models.{latches_of, main_model, output_nets}
use Rattle.netlist_spec.specs.Size.{cost_of}
use Rattle.guard_spec.specs.Codes.{Code, data_places}
use Rattle.guard_spec.specs.Words.{IsPartition, Layout, Settings}
use Rattle.guard_spec.specs.Plain.{IsPlain}
use Rattle.plain_size.specs.Cones.{Source}

-- what each statement of a model costs, told as far as 1,000,001
abbrev pub AreCostsOf : File → Library → Model → List ℕ → Type 0
AreCostsOf file library m costs = costs ≡ map (λ s. min (cost_of file library s.what) 1000001) m.statements

abbrev pub AreMainCosts : File → Library → List ℕ → Type 0
AreMainCosts file library costs = (m : Model) → main_model file ≡ Some m → AreCostsOf file library m costs

-- Each latch is in one state word, and each output in one output word.
pub record IsPartitioned (m : Model) (code : Code) (l : Layout) : Type 0 where
  pub state : IsPartition (length (latches_of m)) (data_places code) l.state
  pub output : IsPartition (length (output_nets m)) (data_places code) l.output

-- the plain size for the main model
abbrev pub IsMainPlain : File → Settings → Layout → ℕ → Type 0
IsMainPlain file s l n = (m : Model) × (main_model file ≡ Some m) × IsPlain file s.library m s.code s.mode s.bound l n

-- the size of a model, and none where it is above the limit
abbrev pub IsUpToLimit : (ℕ → Type 0) → Option ℕ → Type 0
IsUpToLimit IsSize None = (n : ℕ) × IsSize n × (1000000 < n)
IsUpToLimit IsSize (Some n) = IsSize n × (n ≤ 1000000)

-- a model, and how a guard with these settings reads its state
abbrev pub source_of : File → Model → Settings → Layout → Source
source_of file m s l = record { file = file; library = s.library; m = m; code = s.code; mode = s.mode; radius = s.bound; state = l.state }
