-- What the faults of the reader stand for.
use Rattle.std.specs.Prelude.{◌≡◌, ⊤, List, Option, None, Some, Result, Err}
use Rattle.netlist_spec.specs.Runs.{Fault}
use Rattle.stimulus_spec.specs.Stimulus.{ScriptFault as SaidFault, bad_script, no_such_cell, more_than_sixteen}
use Rattle.fault_script.specs.declared.fault.ScriptFault.{ScriptFault}
use Rattle.fault_script.specs.declared.fault.ScriptFault.TheVariants.{BadScript, NoSuchCell, MoreThanSixteen, NoMemory}

-- what is wrong, with the line, and none for want of memory
abbrev pub fault_of : ScriptFault → Option SaidFault
fault_of (BadScript line) = Some (bad_script line)
fault_of (NoSuchCell line) = Some (no_such_cell line)
fault_of (MoreThanSixteen line) = Some (more_than_sixteen line)
fault_of NoMemory = None

-- A fault other than want of memory is what holds of its line.
abbrev pub Stands : (SaidFault → Type 0) → ScriptFault → Type 0
Stands holds (BadScript line) = holds (bad_script line)
Stands holds (NoSuchCell line) = holds (no_such_cell line)
Stands holds (MoreThanSixteen line) = holds (more_than_sixteen line)
Stands holds NoMemory = ⊤

-- It is the first fault of a text, with its line.
abbrev pub IsScriptFault : Result (List Fault) SaidFault → ScriptFault → Type 0
IsScriptFault expected fault = Stands (λ said. expected ≡ Err said) fault

-- It is what is wrong with one line.
abbrev pub IsLineFault : Option SaidFault → ScriptFault → Type 0
IsLineFault expected fault = Stands (λ said. expected ≡ Some said) fault
