use Rattle.netlist_spec.proofs.MachineRun.{some_gate_run}
use Rattle.netlist_spec.proofs.machines_have_a_run.Goals as goal

pub returns : goal.returns
returns c = λ m is_machine xs faults wide. some_gate_run m is_machine xs faults wide
