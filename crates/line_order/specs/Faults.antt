-- What the faults stand for.
use Rattle.std.specs.Prelude.{◌≡◌, ⊤, Option, None, Some}
use Rattle.netlist_spec.specs.Ordered.{OrderFault, unordered, has_subckt}
use Rattle.line_order.specs.declared.fault.OrderFault.{OrderFault as ToldFault}
use Rattle.line_order.specs.declared.fault.OrderFault.TheVariants.{Unordered, HasSubckt, NoMemory}

-- the line at fault, and none for want of memory
abbrev pub fault_of : ToldFault → Option OrderFault
fault_of (Unordered line) = Some (unordered line)
fault_of (HasSubckt line) = Some (has_subckt line)
fault_of NoMemory = None

abbrev pub told_fault : Option ToldFault → Option OrderFault
told_fault None = None
told_fault (Some fault) = fault_of fault

-- A fault other than want of memory is the one that is expected.
abbrev pub IsFault : Option OrderFault → Option OrderFault → Type 0
IsFault expected None = ⊤
IsFault expected (Some fault) = expected ≡ Some fault
