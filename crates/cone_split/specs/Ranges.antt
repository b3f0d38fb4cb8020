-- Gates that were appended to a list as one range: what they read, where they lead and what they answer.
use Rattle.std.specs.Prelude.{◌≡◌, ℕ, ◌+◌, ◌≤◌, ◌⊎◌, Bool, List, ◌++◌, length, map, Contains}
use Rattle.netlist_spec.specs.Covers.{parity}
use Rattle.netlist_spec.specs.Gates.{GateForm, GateList, AnswersWithin, IsEvaluation, ReadsNet}
use Rattle.netlist_spec.specs.GateRanges.{Region, LiesIn, LeadsToEnd}
use Rattle.gate_net.specs.GateNet.{net_count}
use Rattle.cone_split.specs.Cones.{IsConeSize}

-- The old gates are there unchanged, in front of the new ones.
abbrev pub KeepsGates : GateList → GateList → Type 0
KeepsGates old new = (more : List GateForm) × (new ≡ record old { gates = old.gates ++ more })

-- The region, of whatever bit, is the range of the new gates.
pub record IsAppended (old new : GateList) (r : Region) : Type 0 where
  pub first : r.first ≡ net_count old
  pub end : r.end ≡ net_count new

-- Each gate of the region reads the given nets and gates of the region alone.
abbrev pub ReadsAlone : GateList → List ℕ → Region → Type 0
ReadsAlone net leaf r = (n k : ℕ) → LiesIn r n → ReadsNet net n k → Contains leaf k ⊎ LiesIn r k

-- Each gate of the region is its last one, or is read through gates of the region by the last one.
abbrev pub AllLead : GateList → Region → Type 0
AllLead net r = (n : ℕ) → LiesIn r n → LeadsToEnd net r n

-- A copy of the cone of some roots as one range, with the given nets in the place of the leaves. It ends with a new gate
-- that is the xor of the roots. Its value holds in each valuation in which the gates of the range have their answers,
-- whatever bits the other nets have.
pub record IsCopy (src : GateList) (roots leaf : List ℕ) (old new : GateList) (last : ℕ) : Type 0 where
  pub is_new : net_count old ≤ last
  pub is_last : net_count new ≡ last + 1
  pub reads : (r : Region) → IsAppended old new r → ReadsAlone new leaf r
  pub leads : (r : Region) → IsAppended old new r → AllLead new r
  pub size : ℕ
  pub is_size : IsConeSize src roots size
  pub few : net_count new ≤ net_count old + size + length roots + 1
  pub value : (v u : ℕ → Bool) → AnswersWithin new (net_count old) (net_count new) v → IsEvaluation src (map v leaf) u
      → v last ≡ parity (map u roots)
