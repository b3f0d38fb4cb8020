-- Sums of bits and words that come to the size of a guard, up to the limit.
use Rattle.std.specs.Prelude.{◌≡◌, ℕ, ◌+◌, ◌*◌, ◌<◌, ◌≤◌, List, ◌++◌, length, Option, None, Some, All}
use Rattle.std.specs.List.{AllZip}
use Rattle.netlist_spec.specs.Netlist.{Name}
use Rattle.guard_spec.specs.Codes.{Code}
use Rattle.guard_spec.specs.Words.{Words, Layout}
use Rattle.guard_spec.specs.Plain.{word_cost, IsSizeWith}
use Rattle.size_laws.specs.Partial.{IsWordCost, IsPartialSize}
use Rattle.plain_size.specs.Cones.{Source, bit}
use Rattle.plain_size.specs.Prices.{AreShort}

-- words of no more places than the code has rows, over numbers below a limit
pub record AreWords (code : Code) (end : ℕ) (words : Words) : Type 0 where
  pub short : AreShort code words
  pub within : All (λ w. All (λ i. i < end) w) words

-- Each of these is none where the limit is passed together with what was summed up before.

-- what a bit costs above 2
abbrev pub IsBehind : Source → Name → ℕ → Option ℕ → Type 0
IsBehind p x total None = (n : ℕ) × bit p x n × (1000000 < total + n)
IsBehind p x total (Some b) = bit p x (2 + b) × (total + b ≤ 1000000)

-- a bit added, and once more for each of so many check bits
abbrev pub IsBit : Source → Name → (checks total : ℕ) → Option ℕ → Type 0
IsBit p x checks total None = (n : ℕ) × bit p x n × (1000000 < total + n * (1 + checks))
IsBit p x checks total (Some sum) = (n : ℕ) × bit p x n × (sum ≡ total + n * (1 + checks))

-- A word with these nets added. The total so far has the 1 of each check bit.
abbrev pub IsWord : Source → List Name → ℕ → Option ℕ → Type 0
IsWord p nets start None =
    (front more : List Name) × (costs : List ℕ) × (nets ≡ front ++ more) × AllZip (bit p) front costs × (1000000 + p.code.columns < start + word_cost p.code costs)
IsWord p nets start (Some sum) =
    (cost : ℕ) × IsWordCost p.file p.library p.m p.code p.mode p.radius p.state nets cost × (sum + p.code.columns ≡ start + cost)

abbrev pub partial : Source → (rails : ℕ) → Layout → (i j n : ℕ) → Type 0
partial p rails l i j n = IsPartialSize p.file p.library p.m p.code p.mode p.radius rails l i j n

-- All sizes are above the limit.
abbrev pub IsLarge : Source → (rails : ℕ) → Layout → Type 0
IsLarge p rails l = (n : ℕ) → IsSizeWith p.file p.library p.m p.code p.mode p.radius rails l n → 1000000 < n

-- all state words added
abbrev pub IsStateSum : Source → (rails : ℕ) → Layout → ℕ → Option ℕ → Type 0
IsStateSum p rails l start None = partial p rails l 0 0 start → IsLarge p rails l
IsStateSum p rails l start (Some sum) = partial p rails l 0 0 start → partial p rails l (length l.state) 0 sum

-- all output words added, behind all state words
abbrev pub IsOutputSum : Source → (rails : ℕ) → Layout → ℕ → Option ℕ → Type 0
IsOutputSum p rails l start None = partial p rails l (length l.state) 0 start → IsLarge p rails l
IsOutputSum p rails l start (Some sum) = partial p rails l (length l.state) 0 start → partial p rails l (length l.state) (length l.output) sum

-- all words added to the rails
abbrev pub IsWholeSum : Source → (rails : ℕ) → Layout → ℕ → Option ℕ → Type 0
IsWholeSum p rails l start None = partial p rails l 0 0 start → IsLarge p rails l
IsWholeSum p rails l start (Some sum) = partial p rails l 0 0 start → IsSizeWith p.file p.library p.m p.code p.mode p.radius rails l sum
