-- Correctors and a machine's gates over corrected nets, joined in one gate list.
use Rattle.std.specs.Prelude.{◌≡◌, ℕ, ◌+◌, ◌<◌, ◌≤◌, ◌⊎◌, Bool, false, List, [], ◌∷◌, ◌++◌, length, map, Some, slice_get, IsTrue, Contains}
use Rattle.std.specs.List.{range_with_len}
use Rattle.netlist_spec.specs.SourceRun.{Bits}
use Rattle.netlist_spec.specs.Gates.{GateList, IsGateList, Machine, AnswersWithin, ReadsNet}
use Rattle.guard_spec.specs.Codes.{Code, encoded, apart}
use Rattle.guard_spec.specs.Words.{Layout}
use Rattle.guard_spec.specs.Plain.{corrector_cost}
use Rattle.netlist_spec.specs.Cones.{IsGateReached}
use Rattle.guard_laws.specs.Places.{latches_of_words}
use Rattle.cone_split.specs.Whole.{IsCopyOfAll}

-- A state word, the nets that stand for its data places, and the range of its corrector. One that does not serve has an
-- empty range, and any nets.
pub record Corrector : Type 0 where
  pub word : List ℕ
  pub nets : List ℕ
  pub first : ℕ
  pub end : ℕ
  pub serves : Bool

-- A corrector in a finished list, of the word whose places are the nets from `at` on.
pub record IsCorrector (net : GateList) (code : Code) (t at : ℕ) (c : Corrector) : Type 0 where
  pub count : length c.nets ≡ length c.word
  pub order : c.first ≤ c.end
  pub known : (n : ℕ) → Contains c.nets n → (n < net.leaves) ⊎ ((c.first ≤ n) × (n < c.end))
  pub reads : (n k : ℕ) → c.first ≤ n → n < c.end → ReadsNet net n k → (k < net.leaves) ⊎ ((c.first ≤ k) × (k < c.end))
  pub few : c.end ≤ c.first + corrector_cost code t (length c.word)
  pub idle : c.serves ≡ false → c.end ≡ c.first
  pub value : (v : ℕ → Bool) (u : Bits) → IsTrue c.serves → AnswersWithin net c.first c.end v
      → length u ≡ length c.word → apart (map v (range_with_len at (length c.word + code.columns))) (encoded code u) ≤ t → map v c.nets ≡ u

-- Correctors of words one behind the other, with ranges one behind the other.
abbrev pub AreCorrectors : GateList → Code → ℕ → (at from : ℕ) → List Corrector → ℕ → Type 0
AreCorrectors net code t at from [] end = from ≡ end
AreCorrectors net code t at from (c ∷ cs) end =
    (c.first ≡ from) × IsCorrector net code t at c × AreCorrectors net code t (at + length c.word + code.columns) c.end cs end

-- For each latch of the source, the net that stands for its corrected bit.
pub record AreCorrectedNets (correctors : List Corrector) (latches : ℕ) (nets : List ℕ) : Type 0 where
  pub count : length nets ≡ latches
  pub each : (c : Corrector) (p j n : ℕ) → Contains correctors c → slice_get c.word p ≡ Some j → slice_get c.nets p ≡ Some n → slice_get nets j ≡ Some n

-- The leaves are the data inputs and all places of all state words, as in the guard. Correctors follow, and then the
-- source's gates, from net `first` on, over the data inputs and the corrected nets.
pub record IsJoined (source : Machine) (code : Code) (l : Layout) (t : ℕ) (joined : GateList) (correctors : List Corrector) (nets : List ℕ) (first : ℕ) : Type 0 where
  pub is_list : IsGateList joined
  pub leaves : joined.leaves ≡ source.inputs + latches_of_words code l.state
  pub words : map (λ c. c.word) correctors ≡ l.state
  pub row : AreCorrectors joined code t source.inputs joined.leaves correctors first
  pub corrected : AreCorrectedNets correctors (length source.latches) nets
  pub cells : IsCopyOfAll source.net (range_with_len 0 source.inputs ++ nets) first joined

-- The net is the output of a latch of the word, or its cone reads one.
abbrev pub NeedsWord : Machine → ℕ → List ℕ → Type 0
NeedsWord source x w = (i : ℕ) × Contains w i × IsGateReached source x (source.inputs + i)

-- Each word that the net needs has a corrector that serves.
abbrev pub IsServed : Machine → List Corrector → ℕ → Type 0
IsServed source correctors x = (c : Corrector) → Contains correctors c → NeedsWord source x c.word → IsTrue c.serves
