-- What a script has: the faults of each cycle, by the numbers of their cells.
use Rattle.std.specs.Prelude.{◌≡◌, ℕ, ◌<◌, List, [], length, map, All, unwrap_or, ◌==◌, Result, Ok}
use Rattle.std.specs.Map.{lookup}
use Rattle.arrayvec.specs.ArrayVec.{ArrayVec}
use Rattle.netlist_spec.specs.Netlist.{Name}
use Rattle.netlist_spec.specs.Runs.{Fault, forced_at}
use Rattle.stimulus_spec.specs.Stimulus.{ScriptFault}
use Rattle.fault_sim.specs.declared.faults.CellFault.{CellFault}
use Rattle.fault_sim.specs.Faults.{named_faults}

-- the cycles that have faults, each with its faults in the order of their lines
pub record Scripted : Type 0 where
  pub by_cycle : List (ℕ × List CellFault)

-- the faults of a cycle
abbrev pub faults_in : Scripted → ℕ → List CellFault
faults_in s c = unwrap_or (lookup (λ k. k == c) s.by_cycle) []

-- the entries of a map, as plain data
abbrev pub listed : List (ℕ × ArrayVec CellFault) → List (ℕ × List CellFault)
listed entries = map (λ (e : ℕ × ArrayVec CellFault). (e.0, e.1.items)) entries

-- A script has the faults of a list, cycle by cycle, as the cells of a netlist.
pub record HasFaults (cells : List Name) (faults : List Fault) (s : Scripted) : Type 0 where
  -- in each cycle those that a run takes for it
  pub each_cycle : (c : ℕ) → named_faults cells (faults_in s c) ≡ forced_at c faults
  pub exist : (c : ℕ) → All (λ (f : CellFault). f.cell.0 < length cells) (faults_in s c)

-- A script has what was said: a list of faults of these cells.
pub record IsScript (cells : List Name) (said : Result (List Fault) ScriptFault) (s : Scripted) : Type 0 where
  pub faults : List Fault
  pub is_said : said ≡ Ok faults
  pub has : HasFaults cells faults s
