use Rattle.std.proofs.Common.{ℕ, ◌+◌, ◌≤◌, map, sum_by}
use Rattle.std.specs.List.{range_with_len}
use Rattle.guard_spec.specs.Plain.{column_cost}
use Rattle.gate_net.specs.Gate.{net_number}
use Rattle.gate_net.specs.GateNet.{net_count}
use Rattle.cone_split.specs.Ranges.{KeepsGates}
use Rattle.guard_cells.specs.Cells.{GivesCosts, bit_costs}
use Rattle.guard_cells.proofs.Checks.{AddChecks}
use Rattle.guard_cells.proofs.bits.add_checks.Given as goal

abbrev pub invariant-loop-j : goal.invariant-loop-j
invariant-loop-j l = record {
  kept : KeepsGates l.fn.s.net l.s.net;
  cells : AddChecks l.m (map net_number l.leaf) l.code (map net_number l.roots) l.fn.s.net l.s.net (map net_number l.fn.s.cells.items) (map net_number l.s.cells.items) l.j;
  few : (cost : ℕ → ℕ) → GivesCosts l.m cost → net_count l.s.net ≤ net_count l.fn.s.net + sum_by (column_cost l.code (bit_costs cost (map net_number l.roots))) (range_with_len 0 l.j);
}
