-- Systematic linear binary codes.
use Rattle.std.specs.Prelude.{◌≡◌, ◌≢◌, ℕ, suc, ◌+◌, ◌*◌, ◌<◌, ◌≤◌, ◌⊎◌, true, false, List, [], ◌∷◌, ◌++◌, length, map, take, drop, replicate, count_by, if◌then◌else◌, Contains, AllPairs}
use Rattle.std.specs.List.{AllByRecursion, range_with_len}
use Rattle.netlist_spec.specs.Covers.{differ, has_bit, number_of}
use Rattle.netlist_spec.specs.SourceRun.{Bits}

-- A check matrix: a row for each data place, and in each row as many bits as there are columns.
pub record Code : Type 0 where
  pub columns : ℕ
  pub rows : List Bits

abbrev pub data_places : Code → ℕ
data_places code = length code.rows

-- 1 to 12 rows of 1 to 16 columns
pub record IsCode (code : Code) : Type 0 where
  pub rows : (1 ≤ data_places code) × (data_places code ≤ 12)
  pub columns : (1 ≤ code.columns) × (code.columns ≤ 16)
  pub full : AllByRecursion (λ row. length row ≡ code.columns) code.rows

abbrev pub zeros : ℕ → Bits
zeros n = replicate n false

-- the sum of two rows, place by place
abbrev pub sum_of : Bits → Bits → Bits
sum_of [] ys = []
sum_of (x ∷ xs) [] = []
sum_of (x ∷ xs) (y ∷ ys) = differ x y ∷ sum_of xs ys

-- The check bits of some data: the sum of the rows at which the data has a 1. Data of m places uses the first
-- m rows.
abbrev pub checks_by : ℕ → List Bits → Bits → Bits
checks_by r rows [] = zeros r
checks_by r [] (b ∷ bs) = zeros r
checks_by r (row ∷ rows) (b ∷ bs) = sum_of (if b then row else zeros r) (checks_by r rows bs)

abbrev pub checks_of : Code → Bits → Bits
checks_of code u = checks_by code.columns code.rows u

-- The codeword of some data: the data, and then its check bits.
abbrev pub encoded : Code → Bits → Bits
encoded code u = u ++ checks_of code u

-- the number of ones
abbrev pub weight : Bits → ℕ
weight bits = count_by (λ b. b) bits

-- The number of places in which two words differ. A place that one of them alone has counts too.
abbrev pub apart : Bits → Bits → ℕ
apart [] ys = length ys
apart (x ∷ xs) [] = suc (length xs)
apart (x ∷ xs) (y ∷ ys) = (if differ x y then 1 else 0) + apart xs ys

-- d is the least weight of a codeword whose data is not zero.
pub record IsDistance (code : Code) (d : ℕ) : Type 0 where
  pub least : Bits
  pub places : length least ≡ data_places code
  pub nonzero : 0 < weight least
  pub reached : weight (encoded code least) ≡ d
  pub bound : (u : Bits) → length u ≡ data_places code → 0 < weight u → d ≤ weight (encoded code u)

-- u is the data of least number, place 0 the lowest bit, among the nonzero ones whose codeword has that weight.
pub record IsLeastData (code : Code) (d : ℕ) (u : Bits) : Type 0 where
  pub places : length u ≡ data_places code
  pub nonzero : 0 < weight u
  pub reached : weight (encoded code u) ≡ d
  pub least : (w : Bits) → length w ≡ data_places code → 0 < weight w → weight (encoded code w) ≡ d → number_of u ≤ number_of w

-- z is the codeword of some data of m places.
abbrev pub IsCodeword : Code → ℕ → Bits → Type 0
IsCodeword code m z = (u : Bits) × (length u ≡ m) × (z ≡ encoded code u)

-- A word decodes to u within t: it is at most t places apart from the codeword of u, and more than t from
-- that of any other data of that length.
pub record Decodes (code : Code) (t : ℕ) (z u : Bits) : Type 0 where
  pub near : apart z (encoded code u) ≤ t
  pub others : (w : Bits) → length w ≡ length u → w ≢ u → t < apart z (encoded code w)

-- A word is more than t places apart from every codeword of m data places.
abbrev pub IsFar : Code → ℕ → ℕ → Bits → Type 0
IsFar code t m z = (u : Bits) → length u ≡ m → t < apart z (encoded code u)

-- The syndrome of a word of m data places: the check bits of its data, and the check bits that it has, added.
abbrev pub syndrome_of : Code → ℕ → Bits → Bits
syndrome_of code m z = sum_of (checks_of code (take m z)) (drop m z)

-- an error pattern and its syndrome
pub record Pattern : Type 0 where
  pub error : Bits
  pub syndrome : Bits

-- Patterns stand by weight, and those of one weight by number, place 0 the lowest bit.
abbrev pub StandsBefore : Bits → Bits → Type 0
StandsBefore a b = (weight a < weight b) ⊎ ((weight a ≡ weight b) × (number_of a < number_of b))

-- a pattern of weight 1 to t over m data places and the check places
pub record IsPattern (code : Code) (m t : ℕ) (error : Bits) : Type 0 where
  pub places : length error ≡ m + code.columns
  pub some_place : 1 ≤ weight error
  pub few : weight error ≤ t

-- every such pattern once, in this order, with its syndrome
pub record ArePatterns (code : Code) (m t : ℕ) (patterns : List Pattern) : Type 0 where
  pub each : AllByRecursion (λ p. IsPattern code m t p.error × (p.syndrome ≡ syndrome_of code m p.error)) patterns
  pub order : AllPairs (λ p q. StandsBefore p.error q.error) patterns
  pub all : (error : Bits) → IsPattern code m t error → Contains (map (λ p. p.error) patterns) error

-- What a guard does about faulty cells: its rails tell of them, or its cells correct them.
pub data Mode : Type 0 where
  detect : Mode
  correct : Mode

-- what a bound t on the faulty cells asks of the distance
abbrev pub needed_distance : Mode → ℕ → ℕ
needed_distance detect t = t + 1
needed_distance correct t = 2 * t + 1

-- In detection there are t + 1 rails, so that one of them has no faulty cell. In correction there are none.
abbrev pub rail_count : Mode → ℕ → ℕ
rail_count detect t = t + 1
rail_count correct t = 0

-- the bits of a number, the lowest first
abbrev pub bits_of : ℕ → ℕ → Bits
bits_of width n = map (λ i. has_bit n i) (range_with_len 0 width)

-- the extended Hamming code of distance 4
abbrev pub hamming_code : Code
hamming_code =
    record {
      columns = 4;
      rows = (false ∷ true ∷ true ∷ true ∷ []) ∷ (true ∷ false ∷ true ∷ true ∷ []) ∷ (true ∷ true ∷ false ∷ true ∷ []) ∷ (true ∷ true ∷ true ∷ false ∷ []) ∷ [];
    }
