use Rattle.std.proofs.Common.{◌+◌, ◌*◌, ◌≤◌, map}
use Rattle.gate_net.specs.Gate.{net_number}
use Rattle.gate_net.specs.GateNet.{net_count}
use Rattle.gate_net.specs.Words.{word_nets}
use Rattle.cone_split.specs.Ranges.{KeepsGates}
use Rattle.alarm_rails.specs.Rail.{rail_cells}
use Rattle.guard_cells.proofs.Alarms.{AddRails}
use Rattle.guard_cells.proofs.rails.add_rails.Given as goal

abbrev pub invariant-loop : goal.invariant-loop
invariant-loop l = record {
  kept : KeepsGates l.fn.s.net l.s.net;
  cells : AddRails l.code (map word_nets l.words) l.fn.s.net l.s.net (map net_number l.fn.s.cells.items) (map net_number l.s.cells.items) l.counter;
  few : net_count l.s.net ≤ net_count l.fn.s.net + l.counter * rail_cells l.code (map word_nets l.words);
}
