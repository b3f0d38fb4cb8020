-- What the faults of the readers stand for.
use Rattle.std.specs.Prelude.{◌≡◌, ⊤, ℕ, Option, None, Some, Result, Err}
use Rattle.netlist_spec.specs.SourceRun.{Stream}
use Rattle.sim_text.specs.declared.fault.StimFault.{StimFault}
use Rattle.sim_text.specs.declared.fault.StimFault.TheVariants.{BadStimulus, NoMemory}

-- the line at fault, and none for want of memory
abbrev pub fault_of : StimFault → Option ℕ
fault_of (BadStimulus line) = Some line
fault_of NoMemory = None

-- A fault other than want of memory has the line that is at fault.
abbrev pub IsStimFault : Result Stream ℕ → StimFault → Type 0
IsStimFault expected (BadStimulus line) = expected ≡ Err line
IsStimFault expected NoMemory = ⊤
