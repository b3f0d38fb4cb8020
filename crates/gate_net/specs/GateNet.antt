-- A list of gates, and rows of bits with one for each of its nets.
use Rattle.std.specs.Prelude.{ℕ, ◌+◌, ◌^◌, ◌≤◌, Bool, false, List, length, slice_index_or}
use Rattle.netlist_spec.specs.Gates.{GateList, IsGateList}

-- how many nets there are: leaves and gates
abbrev pub net_count : GateList → ℕ
net_count net = net.leaves + length net.gates

-- each gate reads lower nets, and there are at most 2^23 nets
pub record IsNet (net : GateList) : Type 0 where
  pub gates : IsGateList net
  pub small : net_count net ≤ 2 ^ 23

-- the bit of a net, and 0 past the end of the row
abbrev pub net_bit : List Bool → ℕ → Bool
net_bit row n = slice_index_or row n false
