-- Faults by the numbers of cells, and as a table by the numbers of nets.
use Rattle.std.specs.Prelude.{◌≡◌, ℕ, ◌<◌, Bool, List, [], length, map, Option, None, slice_index_or, IsTrue}
use Rattle.netlist_spec.specs.Netlist.{Name, are_distinct}
use Rattle.netlist_spec.specs.Values.{Forced, forced_bit}
use Rattle.fault_sim.specs.declared.faults.CellFault.{CellFault}

-- the faults with the nets of the cells in place of their numbers
abbrev pub named_fault : List Name → CellFault → Name × Bool
named_fault cells fault = (slice_index_or cells fault.cell.0 [], fault.value)

abbrev pub named_faults : List Name → List CellFault → Forced
named_faults cells faults = map (named_fault cells) faults

-- A table has the bit of each net's fault.
pub record Forces (all : List Name) (table : List (Option Bool)) (faults : Forced) : Type 0 where
  pub distinct : IsTrue (are_distinct all)
  pub each_net : length table ≡ length all
  pub forced : (k : ℕ) → k < length all → slice_index_or table k None ≡ forced_bit faults (slice_index_or all k [])
