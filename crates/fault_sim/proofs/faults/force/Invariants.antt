-- The faults so far are in the table.
use Rattle.std.proofs.Common.{◌≡◌, List, length, map, take, IsTrue}
use Rattle.netlist_spec.specs.Netlist.{Name, are_distinct}
use Rattle.blif_read.specs.View.{name_at}
use Rattle.fault_sim.specs.Faults.{Forces, named_faults}
use Rattle.fault_sim.proofs.faults.force.Given as goal

abbrev pub invariant-loop-fault : goal.invariant-loop-fault
invariant-loop-fault l =
    (all : List Name) → IsTrue (are_distinct all) → length l.initial.table ≡ length all → Forces all l.table (named_faults (map (name_at all) l.nets) (take l.fault-index l.faults))
