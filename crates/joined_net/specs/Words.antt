-- Correctors of words, one after another.
use Rattle.std.specs.Prelude.{◌≡◌, ℕ, ◌<◌, ◌≤◌, ◌↔◌, Bool, List, [], ◌∷◌, length, map, slice_set, Contains, IsTrue}
use Rattle.std.specs.List.{AllByRecursion}
use Rattle.netlist_spec.specs.Gates.{GateList}
use Rattle.guard_spec.specs.Codes.{Code}
use Rattle.guard_spec.specs.Plain.{corrector_cost}
use Rattle.guard_spec.specs.Words.{Words}
use Rattle.gate_net.specs.GateNet.{net_count}
use Rattle.correction_laws.specs.Joined.{AreCorrectedNets, AreCorrectors, Corrector}
use Rattle.joined_net.specs.Marks.{HasMark}

-- nets put at the numbers of a word
abbrev pub put_nets : List ℕ → List ℕ → List ℕ → List ℕ
put_nets [] found nets = nets
put_nets (j ∷ word) [] nets = nets
put_nets (j ∷ word) (n ∷ found) nets = put_nets word found (slice_set nets j n)

-- The first words came to a list of gates and to a row of nets: a word of which some latch is marked has a corrector, and the
-- data places of each other one stand for themselves.
pub record GainsWords (code : Code) (t inputs latches : ℕ) (marks : List Bool) (words : Words) (net : GateList) (nets : List ℕ) : Type 0 where
  pub correctors : List Corrector
  pub are_words : map (λ c. c.word) correctors ≡ words
  pub serves : (c : Corrector) → Contains correctors c → IsTrue c.serves ↔ HasMark marks inputs c.word
  pub row : AreCorrectors net code t inputs net.leaves correctors (net_count net)
  pub corrected : AreCorrectedNets correctors latches nets
  pub below : AllByRecursion (λ n. n < net_count net) nets

-- a bound on what a word may cost: that of a corrector where a latch of it is marked
abbrev pub CoversCosts : Code → ℕ → ℕ → List Bool → (List ℕ → ℕ) → Type 0
CoversCosts code t inputs marks cost = (w : List ℕ) → HasMark marks inputs w → corrector_cost code t (length w) ≤ cost w
