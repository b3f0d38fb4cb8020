-- The counts of a tally.
use Rattle.std.specs.Prelude.{◌≡◌, ℕ, ◌+◌, ◌*◌, ◌≤◌, ◌↔◌, List, [], ◌∷◌, ◌++◌, length, Some, IsTrue}
use Rattle.netlist_spec.specs.Netlist.{Model, File}
use Rattle.netlist_spec.specs.Models.{main_model, output_nets}
use Rattle.netlist_spec.specs.SourceRun.{Bits, Stream, SourceRun}
use Rattle.netlist_spec.specs.Ordered.{IsOrdered, cell_nets}
use Rattle.netlist_spec.specs.Runs.{IsWithin}
use Rattle.guard_spec.specs.Codes.{Code, Mode}
use Rattle.guard_spec.specs.Words.{Settings, Layout, IsPartition}
use Rattle.guard_spec.specs.Containment.{ContainsFaults}
use Rattle.guard_spec.specs.Tally.{Outcome, right, alarmed, decoded, wrong, is_same_outcome, Tally, tally_of, IsTallyBeside}
use Rattle.containment.specs.Outcomes.{IsClean}

-- with one more run
abbrev pub counted : Tally → Outcome → Tally
counted n right = record { right = n.right + 1; alarmed = n.alarmed; decoded = n.decoded; wrong = n.wrong }
counted n alarmed = record { right = n.right; alarmed = n.alarmed + 1; decoded = n.decoded; wrong = n.wrong }
counted n decoded = record { right = n.right; alarmed = n.alarmed; decoded = n.decoded + 1; wrong = n.wrong }
counted n wrong = record { right = n.right; alarmed = n.alarmed; decoded = n.decoded; wrong = n.wrong + 1 }

abbrev pub RunsAreCounted : List Outcome → Outcome → Type 0
RunsAreCounted os o = tally_of (os ++ o ∷ []) ≡ counted (tally_of os) o

-- Each outcome is counted in one of the four places.
abbrev pub OutcomesAreApart : (a b : Outcome) → Type 0
OutcomesAreApart a b = IsTrue (is_same_outcome a b) ↔ (a ≡ b)

abbrev pub total : Tally → ℕ
total n = n.right + n.alarmed + n.decoded + n.wrong

abbrev pub CountsAddUp : List Outcome → Type 0
CountsAddUp os = total (tally_of os) ≡ length os

-- There are two runs for each cell.
abbrev pub TalliesAddUp : (g : File) (m : Model) (code : Code) (l : Layout) (p : ℕ) (mode : Mode) (t : ℕ) (xs : Stream) (ys : List Bits) (cycle : ℕ) (tally : Tally) → Type 0
TalliesAddUp g m code l p mode t xs ys cycle tally =
    main_model g ≡ Some m → IsTallyBeside g code l p mode t xs ys cycle tally → total tally ≡ 2 * length (cell_nets m)

-- An ordered file has one tally beside the outputs of a source.
abbrev pub TalliesAreOne : (g : File) (code : Code) (l : Layout) (p : ℕ) (mode : Mode) (t : ℕ) (xs : Stream) (ys : List Bits) (cycle : ℕ) (tally other : Tally) → Type 0
TalliesAreOne g code l p mode t xs ys cycle tally other =
    IsOrdered g → IsTallyBeside g code l p mode t xs ys cycle tally → IsTallyBeside g code l p mode t xs ys cycle other → tally ≡ other

-- Where a file contains the faults of few cells in one cycle, no run is wrong, none is decoded in detection, and none is
-- alarmed in correction.
pub record IsPair (g source : File) (m gm : Model) (k : ℕ) (l : Layout) : Type 0 where
  pub is_source_model : main_model source ≡ Some m
  pub is_guard_model : main_model g ≡ Some gm
  pub room : length (output_nets m) ≤ length (output_nets gm)
  pub words : IsPartition (length (output_nets m)) k l.output

abbrev pub ContainedTalliesAreClean : (g source : File) (s : Settings) (m gm : Model) (k few : ℕ) (l : Layout) (xs : Stream) (states ys : List Bits) (cycle : ℕ) (tally : Tally) → Type 0
ContainedTalliesAreClean g source s m gm k few l xs states ys cycle tally =
    IsPair g source m gm k l → 1 ≤ few → ContainsFaults s.mode g source s m l (IsWithin few) → SourceRun source s.library xs states ys
    → IsTallyBeside g s.code l (length (output_nets m)) s.mode s.bound xs ys cycle tally → IsClean s.mode tally
