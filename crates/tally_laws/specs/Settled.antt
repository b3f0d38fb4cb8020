-- Runs whose outcome is settled before they end.
use Rattle.std.specs.Prelude.{◌≡◌, ℕ, ◌+◌, ◌≤◌, true, false, List, [], ◌∷◌, ◌++◌, length, take, drop}
use Rattle.std.specs.List.{AllByRecursion}
use Rattle.netlist_spec.specs.Netlist.{File}
use Rattle.netlist_spec.specs.Models.{data_inputs}
use Rattle.netlist_spec.specs.SourceRun.{Bits, Stream}
use Rattle.netlist_spec.specs.Ordered.{IsOrdered}
use Rattle.netlist_spec.specs.Runs.{Fault, FreeRun}
use Rattle.guard_spec.specs.Codes.{Code, Mode, detect, correct}
use Rattle.guard_spec.specs.Words.{Layout}
use Rattle.guard_spec.specs.Contained.{at_cycle}
use Rattle.guard_spec.specs.Tally.{Outcome, alarmed, wrong}
use Rattle.tally_laws.specs.Parts.{FaultyRuns}
use Rattle.tally_laws.specs.Seen.{Seen, then_seen, seen, outcome_seen}
use Rattle.tally_laws.specs.Sorted.{IsSorted}

-- Whatever the later cycles show, this is the outcome: an output was wrong, and a rail came in time, or none did; or a word
-- was not near.
abbrev pub IsSettled : Mode → Seen → Outcome → Type 0
IsSettled detect a alarmed = (a.right ≡ false) × (a.in_time ≡ true) × (a.raised ≡ true)
IsSettled detect a wrong = (a.right ≡ false) × (a.in_time ≡ false)
IsSettled correct a wrong = (a.right ≡ false) × (a.near ≡ false)
IsSettled mode a o = ⊥

abbrev pub SettledOutcomesStay : Mode → (a b : Seen) → Outcome → Type 0
SettledOutcomesStay mode a b o = IsSettled mode a o → outcome_seen mode (then_seen a b) ≡ o

-- A run with a fault, of which n cycles from the fault's cycle on are run, has the outcome that is settled by then. The
-- rest of the run exists, since the file is ordered and the stream has its width.
abbrev pub SettledRunsAreSorted : (g : File) (code : Code) (l : Layout) (p : ℕ) (mode : Mode) (t : ℕ) (fault : Fault) (xs : Stream) (ys stored zs : List Bits) (n : ℕ) (now : Bits) (faulty shown : List Bits) → Outcome → Type 0
SettledRunsAreSorted g code l p mode t fault xs ys stored zs n now faulty shown o =
    (ordered : IsOrdered g) → AllByRecursion (λ x. length (data_inputs ordered.model) ≡ length x) xs → FreeRun g xs stored zs → length ys ≡ length xs → fault.cycle + n ≤ length xs
    → FaultyRuns ordered.model (fault ∷ []) fault.cycle (at_cycle stored fault.cycle) (take n (drop fault.cycle xs)) (faulty ++ now ∷ []) shown
    → IsSettled mode (then_seen (seen code l p t (take fault.cycle ys) (take fault.cycle zs)) (seen code l p t (take n (drop fault.cycle ys)) shown)) o
    → IsSorted g code l p mode t xs ys fault o
