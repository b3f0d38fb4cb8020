-- Gate lists that grow, and the bits of what is appended.
use Rattle.std.specs.Prelude.{◌≡◌, ℕ, ◌<◌, ◌≤◌, ◌⊎◌, Bool, List, [], ◌∷◌, Option, Some, None, length, map, take, Contains}
use Rattle.netlist_spec.specs.Gates.{GateList, AnswersWithin, ReadsNet}
use Rattle.gate_net.specs.declared.gate.NetId.{NetId}
use Rattle.gate_net.specs.GateNet.{net_count}

-- The gates of the old list are the first ones of the new list, over the same leaves.
pub record Extends (old new : GateList) : Type 0 where
  pub leaves : new.leaves ≡ old.leaves
  pub gates : take (length old.gates) new.gates ≡ old.gates

-- The net is one of those that were appended, and so no leaf.
abbrev pub IsAppended : GateList → GateList → ℕ → Type 0
IsAppended old new n = (net_count old ≤ n) × (n < net_count new)

-- The net has this bit in each valuation in which each appended gate has its answer, whatever bits all other nets have.
abbrev pub HasBit : GateList → GateList → ℕ → ((ℕ → Bool) → Bool) → Type 0
HasBit old new n bit = (v : ℕ → Bool) → AnswersWithin new (net_count old) (net_count new) v → v n ≡ bit v

-- The nets have these bits in each such valuation.
abbrev pub HasBits : GateList → GateList → List ℕ → ((ℕ → Bool) → List Bool) → Type 0
HasBits old new ns bits = (v : ℕ → Bool) → AnswersWithin new (net_count old) (net_count new) v → map v ns ≡ bits v

-- Each appended gate reads the given nets and other appended gates alone.
abbrev pub ReadsInputsAlone : GateList → GateList → List ℕ → Type 0
ReadsInputsAlone old new ins = (n k : ℕ) → net_count old ≤ n → ReadsNet new n k → Contains ins k ⊎ (net_count old ≤ k)

-- the nets that a gate reads where it joins one more
abbrev pub nets_joined : Option NetId → NetId → List ℕ
nets_joined None n = n.0 ∷ []
nets_joined (Some m) n = m.0 ∷ n.0 ∷ []

-- the bit of the nets that are joined so far
abbrev pub bit_so_far : Bool → Option NetId → (ℕ → Bool) → Bool
bit_so_far empty None v = empty
bit_so_far empty (Some m) v = v m.0
