-- What a machine stands for.
use Rattle.std.specs.Prelude.{ℕ, List, map}
use Rattle.netlist_spec.specs.Gates.{GateList, LatchRow, Machine}
use Rattle.gate_net.specs.declared.gate.NetId.{NetId}
use Rattle.gate_net.specs.declared.machine.LatchRow.{LatchRow as Latch}
use Rattle.gate_net.specs.Gate.{net_number}

abbrev pub latch_row : Latch → LatchRow
latch_row l = record { d = net_number l.d; init = l.init }

abbrev pub machine_of : GateList → ℕ → List Latch → List NetId → Machine
machine_of net inputs latches outputs =
    record {
      net = net;
      inputs = inputs;
      latches = map latch_row latches;
      outputs = map net_number outputs;
    }
