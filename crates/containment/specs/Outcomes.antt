-- How the runs of a guard are sorted.
use Rattle.std.specs.Prelude.{◌≡◌, ℕ, ◌<◌, ◌≤◌, ◌⊎◌, List, length}
use Rattle.netlist_spec.specs.Netlist.{File}
use Rattle.netlist_spec.specs.SourceRun.{Bits, Stream}
use Rattle.netlist_spec.specs.Gates.{Machine}
use Rattle.guard_spec.specs.Codes.{Code, Mode, detect, correct}
use Rattle.guard_spec.specs.Words.{Settings, Layout}
use Rattle.guard_spec.specs.Contained.{at_cycle, DecodesAt}
use Rattle.guard_spec.specs.Tally.{Tally, Outcome, right, alarmed, decoded, IsTally, IsMachineTally}

-- There are as many cycles, and each has the source's p outputs and no fewer of the guard's.
abbrev pub HaveOutputs : ℕ → List Bits → List Bits → Type 0
HaveOutputs p ys zs = (length zs ≡ length ys) × ((c : ℕ) → c < length ys → (length (at_cycle ys c) ≡ p) × (p ≤ length (at_cycle zs c)))

-- No run is wrong. None is decoded in detection, and none is alarmed in correction.
abbrev pub IsClean : Mode → Tally → Type 0
IsClean detect tally = (tally.wrong ≡ 0) × (tally.decoded ≡ 0)
IsClean correct tally = (tally.wrong ≡ 0) × (tally.alarmed ≡ 0)

-- A run is sorted as right or alarmed in detection, and as right or decoded in correction.
abbrev pub IsContained : Mode → Outcome → Type 0
IsContained detect o = (o ≡ right) ⊎ (o ≡ alarmed)
IsContained correct o = (o ≡ right) ⊎ (o ≡ decoded)

-- In each cycle each output word decodes to the source's. The source has p outputs.
abbrev pub DecodesInAll : Code → Layout → (p t : ℕ) → List Bits → List Bits → Type 0
DecodesInAll code l p t ys zs = (c : ℕ) → c < length ys → DecodesAt code l p t (at_cycle ys c) (at_cycle zs c)

-- All tallies of a guard beside a source are clean.
abbrev pub HasCleanTallies : File → File → Settings → Layout → Type 0
HasCleanTallies g source s l = (xs : Stream) (cycle : ℕ) (tally : Tally) → IsTally g source s l xs cycle tally → IsClean s.mode tally

-- The tallies of a guard beside a machine are those beside the source.
abbrev pub TalliesAgree : File → File → Settings → Machine → Layout → Type 0
TalliesAgree g source s machine l =
    (xs : Stream) (cycle : ℕ) (tally : Tally)
    → IsMachineTally g machine s.code l s.mode s.bound xs cycle tally → IsTally g source s l xs cycle tally
