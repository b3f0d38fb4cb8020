-- What a corrector promises.
use Rattle.std.specs.Prelude.{◌≡◌, ℕ, ◌+◌, ◌<◌, ◌≤◌, ◌⊎◌, Bool, List, length, map, Contains}
use Rattle.netlist_spec.specs.SourceRun.{Bits}
use Rattle.netlist_spec.specs.Gates.{GateList, AnswersWithin}
use Rattle.guard_spec.specs.Codes.{Code, encoded, apart}
use Rattle.guard_spec.specs.Plain.{corrector_cost}
use Rattle.netlist_spec.specs.GateRanges.{Region}
use Rattle.gate_net.specs.GateNet.{net_count}
use Rattle.gate_net.specs.Words.{WordNets, nets_of}
use Rattle.cone_split.specs.Ranges.{IsAppended, ReadsAlone}

-- What is appended for the correction of a word within t: one range that reads the word and itself, and a net for each data
-- place. Where the word is at most t places apart from a codeword, these nets have its data, in each valuation in which the
-- gates of the range have their answers, whatever bits other nets have.
pub record IsCorrectorRange (code : Code) (t : ℕ) (word : WordNets) (old new : GateList) (nets : List ℕ) : Type 0 where
  pub count : length nets ≡ length word.places
  pub known : (n : ℕ) → Contains nets n → ((net_count old ≤ n) × (n < net_count new)) ⊎ Contains (nets_of word) n
  pub grows : net_count old ≤ net_count new
  pub reads : (r : Region) → IsAppended old new r → ReadsAlone new (nets_of word) r
  pub few : net_count new ≤ net_count old + corrector_cost code t (length word.places)
  pub value : (v : ℕ → Bool) (u : Bits) → AnswersWithin new (net_count old) (net_count new) v
      → length u ≡ length word.places → apart (map v (nets_of word)) (encoded code u) ≤ t → map v nets ≡ u
