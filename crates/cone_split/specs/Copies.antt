-- The steps of a copy: the gates of a cone by number, the nets that stand for its nets, and a sum of nets.
use Rattle.std.specs.Prelude.{◌≡◌, ℕ, ◌+◌, ◌-◌, ◌<◌, ◌≤◌, ◌⊎◌, false, List, [], ◌∷◌, length, drop, Some, slice_get, Contains}
use Rattle.std.specs.List.{AllByRecursion, AllZip}
use Rattle.netlist_spec.specs.Gates.{GateForm, constant, one, two, GateList, ReadsNet}
use Rattle.gate_net.specs.GateNet.{net_count}
use Rattle.cone_split.specs.Cones.{IsInCone}

-- numbers from `low` on that rise
abbrev pub Rises : ℕ → List ℕ → Type 0
Rises low [] = Unit {0}
Rises low (n ∷ ns) = (low ≤ n) × Rises (n + 1) ns

-- Those of the nets that are gates join the old numbers, and no others.
pub record GainsGates (leaves : ℕ) (old new nets : List ℕ) : Type 0 where
  pub kept : (n : ℕ) → Contains old n → Contains new n
  pub added : (n : ℕ) → Contains nets n → leaves ≤ n → Contains new n
  pub alone : (n : ℕ) → Contains new n → Contains old n ⊎ (Contains nets n × (leaves ≤ n))

-- The cells are gates in the order of their numbers, and with each of them the gates that it reads.
pub record AreClosed (net : GateList) (cells : List ℕ) : Type 0 where
  pub rise : Rises net.leaves cells
  pub within : AllByRecursion (λ n. n < net_count net) cells
  pub closed : (n k : ℕ) → Contains cells n → ReadsNet net n k → net.leaves ≤ k → Contains cells k

-- The cells are the gates of the cone.
pub record AreConeOf (net : GateList) (roots cells : List ℕ) : Type 0 where
  pub all : AreClosed net cells
  pub roots_in : (n : ℕ) → Contains roots n → net.leaves ≤ n → Contains cells n
  pub alone : (n : ℕ) → Contains cells n → IsInCone net roots n

-- The net is a leaf, or one of the cells.
abbrev pub HasImage : ℕ → List ℕ → ℕ → Type 0
HasImage leaves cells n = leaves ≤ n → Contains cells n

-- The net m stands for the net n: a leaf has its given net, and the cells have the nets from `first` on.
abbrev pub IsImage : List ℕ → List ℕ → ℕ → ℕ → ℕ → Type 0
IsImage leaf cells first n m = (slice_get leaf n ≡ Some m) ⊎ ((length leaf ≤ n) × ((i : ℕ) × (slice_get cells i ≡ Some n) × (m ≡ first + i)))

-- The gate h is g over the nets that stand for those of g.
abbrev pub IsSameOver : (ℕ → ℕ → Type 0) → GateForm → GateForm → Type 0
IsSameOver R (constant b) h = h ≡ constant b
IsSameOver R (one inv a) h = (c : ℕ) × R a c × (h ≡ one inv c)
IsSameOver R (two op a b) h = (c : ℕ) × (d : ℕ) × R a c × R b d × (h ≡ two op c d)

-- each cell and its copy
abbrev pub AreCopied : GateList → List ℕ → List ℕ → ℕ → List ℕ → List GateForm → Type 0
AreCopied net leaf cells first ns hs =
    AllZip (λ n h. (g : GateForm) × (slice_get net.gates (n - net.leaves) ≡ Some g) × IsSameOver (IsImage leaf cells first) g h) ns hs

-- the sum of at most the first two nets
abbrev pub first_sum : List ℕ → GateForm
first_sum [] = constant false
first_sum (n ∷ []) = one false n
first_sum (a ∷ b ∷ ns) = two 6 a b

-- each net added to the gate in front, where the first of these gates is net `before`
abbrev pub added_gates : ℕ → List ℕ → List GateForm
added_gates before [] = []
added_gates before (n ∷ ns) = two 6 before n ∷ added_gates (before + 1) ns

-- The gates of the sum of some nets, the first of them net `first`.
abbrev pub sum_gates : ℕ → List ℕ → List GateForm
sum_gates first ns = first_sum ns ∷ added_gates first (drop 2 ns)
