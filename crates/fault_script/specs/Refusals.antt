-- What is wrong with one more fault of a cycle, by the numbers of cells.
use Rattle.std.specs.Prelude.{ℕ, List, length, Option, Some, None, nat_le, ◌==◌, if◌then◌else◌}
use Rattle.std.specs.List.{list_any}
use Rattle.stimulus_spec.specs.Stimulus.{ScriptFault as SaidFault, bad_script, more_than_sixteen}
use Rattle.fault_sim.specs.declared.faults.CellFault.{CellFault}

-- the same cell among the faults of the cycle so far; else sixteen of them
abbrev pub cell_fault : List CellFault → CellFault → ℕ → Option SaidFault
cell_fault earlier fault line =
    if list_any (λ (f : CellFault). f.cell.0 == fault.cell.0) earlier then Some (bad_script line)
    else if nat_le 16 (length earlier) then Some (more_than_sixteen line)
    else None
