-- What a rail promises.
use Rattle.std.specs.Prelude.{◌≡◌, ℕ, ◌+◌, ◌*◌, ◌≤◌, ◌⊎◌, ◌↔◌, Bool, List, [], ◌∷◌, length, map, sum_by, IsTrue}
use Rattle.std.specs.List.{flat_map}
use Rattle.netlist_spec.specs.Gates.{GateList, AnswersWithin}
use Rattle.netlist_spec.specs.GateRanges.{Region}
use Rattle.guard_spec.specs.Codes.{Code, data_places, IsCodeword}
use Rattle.guard_spec.specs.Plain.{ones}
use Rattle.gate_net.specs.GateNet.{net_count}
use Rattle.gate_net.specs.Words.{WordNets, nets_of}
use Rattle.cone_split.specs.Ranges.{IsAppended, ReadsAlone, AllLead}

-- at most as many data places as the code has, and all its check places
pub record FitsCode (code : Code) (w : WordNets) : Type 0 where
  pub places : length w.places ≤ data_places code
  pub checks : length w.checks ≡ code.columns

-- the most cells that a rail over the words takes
abbrev pub rail_cells : Code → List WordNets → ℕ
rail_cells code words = 1 + sum_by (λ w. ones code (length w.places) + 2 * code.columns) words

-- some word is no codeword
abbrev pub SomeIsNone : Code → List WordNets → (ℕ → Bool) → Type 0
SomeIsNone code [] v = ⊥
SomeIsNone code (w ∷ ws) v = (IsCodeword code (length w.places) (map v (nets_of w)) → ⊥) ⊎ SomeIsNone code ws v

-- What is appended for a rail: one range that reads the words and itself, and ends with a new gate that is 1 exactly where
-- some word is no codeword, whatever bits other nets have.
pub record IsRail (code : Code) (words : List WordNets) (old new : GateList) (last : ℕ) : Type 0 where
  pub is_new : net_count old ≤ last
  pub is_last : net_count new ≡ last + 1
  pub reads : (r : Region) → IsAppended old new r → ReadsAlone new (flat_map nets_of words) r
  pub leads : (r : Region) → IsAppended old new r → AllLead new r
  pub few : net_count new ≤ net_count old + rail_cells code words
  pub value : (v : ℕ → Bool) → AnswersWithin new (net_count old) (net_count new) v → IsTrue (v last) ↔ SomeIsNone code words v
