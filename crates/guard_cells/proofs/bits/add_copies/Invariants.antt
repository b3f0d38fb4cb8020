use Rattle.std.proofs.Common.{ℕ, ◌+◌, ◌≤◌, map, take, sum}
use Rattle.gate_net.specs.Gate.{net_number}
use Rattle.gate_net.specs.GateNet.{net_count}
use Rattle.cone_split.specs.Ranges.{KeepsGates}
use Rattle.guard_cells.specs.Cells.{GivesCosts, bit_costs}
use Rattle.guard_cells.proofs.Copies.{AddCopies}
use Rattle.guard_cells.proofs.bits.add_copies.Given as goal

abbrev pub invariant-loop-root : goal.invariant-loop-root
invariant-loop-root l = record {
  kept : KeepsGates l.fn.s.net l.s.net;
  cells : AddCopies l.m (map net_number l.leaf) l.fn.s.net l.s.net (map net_number l.fn.s.cells.items) (map net_number l.s.cells.items) (take l.root-index (map net_number l.roots));
  few : (cost : ℕ → ℕ) → GivesCosts l.m cost → net_count l.s.net ≤ net_count l.fn.s.net + sum (bit_costs cost (take l.root-index (map net_number l.roots)));
}
