-- The cone of some nets of a gate list, and its size.
use Rattle.std.specs.Prelude.{◌≡◌, ℕ, ◌+◌, ◌≤◌, ◌^◌, Bool, List, [], ◌∷◌, length, Contains, nat_lt, if◌then◌else◌}
use Rattle.std.specs.List.{range_with_len}
use Rattle.netlist_spec.specs.Gates.{GateList, ReadsNet}
use Rattle.netlist_spec.specs.Cones.{AreMarked, marked_sum}
use Rattle.gate_net.specs.GateNet.{net_count}

-- The cone of some roots: the roots, and each net that a gate of the cone reads.
pub data IsInCone (net : GateList) (roots : List ℕ) : ℕ → Type 0 where
  is_root : {n : ℕ} → Contains roots n → IsInCone net roots n
  is_read : {n k : ℕ} → IsInCone net roots n → ReadsNet net n k → IsInCone net roots k

-- the number of gates of the cone, each counted once
abbrev pub IsConeSize : GateList → List ℕ → ℕ → Type 0
IsConeSize net roots size =
    (marks : List Bool) × AreMarked (λ i. IsInCone net roots (net.leaves + i)) (range_with_len 0 (length net.gates)) marks
    × (size ≡ marked_sum (λ i. 1) (range_with_len 0 (length net.gates)) marks)

-- A gate list has room for a copy of the cone, a gate for each root and one gate more.
abbrev pub HasRoom : GateList → List ℕ → GateList → Type 0
HasRoom src roots dst = (size : ℕ) → IsConeSize src roots size → net_count dst + size + length roots + 1 ≤ 2 ^ 23

-- How many gates the xor of some roots takes behind their cone: none for a single root that is a gate, a copy for one
-- that is a leaf, and a constant where there are no roots.
abbrev pub xor_count : GateList → List ℕ → ℕ
xor_count net [] = 1
xor_count net (root ∷ []) = if nat_lt root net.leaves then 1 else 0
xor_count net (root ∷ other ∷ roots) = 1 + length roots
