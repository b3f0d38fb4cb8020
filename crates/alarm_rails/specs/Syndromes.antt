-- The gates of a rail: a sum for each bit of each word's syndrome, and behind each of them a gate that is 1 where one of the
-- bits so far is 1.
use Rattle.std.specs.Prelude.{ℕ, ◌+◌, false, List, [], ◌∷◌, ◌++◌, length, map}
use Rattle.std.specs.List.{enumerate_from, flat_map}
use Rattle.netlist_spec.specs.Gates.{GateForm, constant, two}
use Rattle.guard_spec.specs.Codes.{Code}
use Rattle.gate_net.specs.Words.{WordNets}
use Rattle.predictor.specs.Columns.{column_roots}

-- A bit of a syndrome is the sum of a check place and of the data places whose row has a 1 in its column.
pub record SyndromeBit : Type 0 where
  pub check : ℕ
  pub places : List ℕ

-- the bits of a word's syndrome, a column each
abbrev pub syndrome_bits : Code → WordNets → List SyndromeBit
syndrome_bits code w =
    map (λ (p : ℕ × ℕ). record { check = p.1; places = column_roots code p.0 w.places }) (enumerate_from 0 w.checks)

-- Each net added to the sum so far. The first of these gates is net `first`.
abbrev pub added_gates : (first so_far : ℕ) → List ℕ → List GateForm
added_gates first so_far [] = []
added_gates first so_far (n ∷ ns) = two 6 so_far n ∷ added_gates (first + 1) first ns

-- the net that has the whole sum
abbrev pub whole_sum : (first so_far : ℕ) → List ℕ → ℕ
whole_sum first so_far [] = so_far
whole_sum first so_far (n ∷ ns) = whole_sum (first + 1) first ns

-- The gates behind net `alarm`, which is 1 where a bit in front of these is 1.
abbrev pub alarm_gates : (alarm : ℕ) → List SyndromeBit → List GateForm
alarm_gates alarm [] = []
alarm_gates alarm (s ∷ ss) =
    added_gates (alarm + 1) s.check s.places
    ++ two 14 alarm (whole_sum (alarm + 1) s.check s.places)
    ∷ alarm_gates (alarm + 1 + length s.places) ss

-- All gates of a rail, the first of them net `first`.
abbrev pub rail_gates : Code → (first : ℕ) → List WordNets → List GateForm
rail_gates code first words = constant false ∷ alarm_gates first (flat_map (syndrome_bits code) words)
