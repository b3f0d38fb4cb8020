-- The cones of nets, in a source and in a machine of gates, and what they cost.
use Rattle.std.specs.Prelude.{◌≡◌, ℕ, ◌+◌, ◌↔◌, Bool, List, [], ◌∷◌, length, map, Some, slice_get, IsTrue, if◌then◌else◌}
use Rattle.std.specs.List.{AllZip, range_with_len}
use Rattle.netlist_spec.specs.Netlist.{Name, stands_in, Statement, Model, File}
use Rattle.netlist_spec.specs.Covers.{Library}
use Rattle.netlist_spec.specs.Models.{latch_outputs}
use Rattle.netlist_spec.specs.Size.{cost_of}
use Rattle.netlist_spec.specs.Sound.{combines, drives, ReadsFor}
use Rattle.netlist_spec.specs.Gates.{Machine, ReadsNet}

-- the sum over the marked elements
abbrev pub marked_sum : {A : Type 0} → (A → ℕ) → List A → List Bool → ℕ
marked_sum f [] marks = 0
marked_sum f (x ∷ xs) [] = 0
marked_sum f (x ∷ xs) (mark ∷ marks) = (if mark then f x else 0) + marked_sum f xs marks

-- exactly the elements that have the property are marked
abbrev pub AreMarked : {A : Type 0} → (A → Type 0) → List A → List Bool → Type 0
AreMarked P xs marks = AllZip (λ x mark. IsTrue mark ↔ P x) xs marks

-- A net of the main model is reached from x if it is x, or is read by the driver of a net that is reached.
-- Latches, inputs and clocks read nothing, so they end the way.
pub data IsReached (file : File) (library : Library) (m : Model) (x : Name) : Name → Type 0 where
  itself : IsReached file library m x x
  behind : {n k : Name} → IsReached file library m x n → ReadsFor file library m n k → IsReached file library m x k

-- The cone of a net: the `.names` and `.subckt` of the main model that drive it, or drive a net that a member
-- of the cone reads.
abbrev pub IsInCone : File → Library → Model → Name → Statement → Type 0
IsInCone file library m x s =
    IsTrue (combines s) × (n : Name) × IsTrue (stands_in n (drives file library s)) × IsReached file library m x n

-- what the statements of the cone cost, each once
abbrev pub ConeCostOf : File → Library → Model → Name → ℕ → Type 0
ConeCostOf file library m x n =
    (marks : List Bool) × AreMarked (IsInCone file library m x) (map (λ s. s.what) m.statements) marks
    × (n ≡ marked_sum (cost_of file library) (map (λ s. s.what) m.statements) marks)

abbrev pub RestsOnLatch : File → Library → Model → Name → ℕ → Type 0
RestsOnLatch file library m x i = (q : Name) × (slice_get (latch_outputs m) i ≡ Some q) × IsReached file library m x q

-- The same for a machine of gates: a cone costs the number of its gates.
pub data IsGateReached (m : Machine) (x : ℕ) : ℕ → Type 0 where
  same_net : IsGateReached m x x
  read_by : {n k : ℕ} → IsGateReached m x n → ReadsNet m.net n k → IsGateReached m x k

abbrev pub GateConeCost : Machine → ℕ → ℕ → Type 0
GateConeCost m x n =
    (marks : List Bool) × AreMarked (λ i. IsGateReached m x (m.net.leaves + i)) (range_with_len 0 (length m.net.gates)) marks
    × (n ≡ marked_sum (λ i. 1) (range_with_len 0 (length m.net.gates)) marks)
