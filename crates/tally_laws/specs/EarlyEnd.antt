-- Sorting one fault beside the free run, cycle by cycle.
use Rattle.std.specs.Prelude.{◌≡◌, ℕ, ◌+◌, ◌≤◌, List, [], ◌∷◌, ◌++◌, length, take, drop, Some}
use Rattle.netlist_spec.specs.Netlist.{Model, File}
use Rattle.netlist_spec.specs.Models.{main_model}
use Rattle.netlist_spec.specs.SourceRun.{Bits, Stream}
use Rattle.netlist_spec.specs.Runs.{Fault, FreeRun}
use Rattle.guard_spec.specs.Codes.{Code, Mode}
use Rattle.guard_spec.specs.Words.{Layout}
use Rattle.guard_spec.specs.Contained.{at_cycle}
use Rattle.tally_laws.specs.Parts.{FaultyRuns}
use Rattle.tally_laws.specs.Seen.{then_seen, seen, outcome_seen}
use Rattle.tally_laws.specs.Sorted.{IsSorted}

module _ (g : File) (m : Model) (code : Code) (l : Layout) (p : ℕ) (mode : Mode) (t : ℕ) (fault : Fault) (xs : Stream) (ys stored zs : List Bits) where
  -- The free run stores `stored` and shows zs. From its stored bits in the fault's cycle on, n cycles with the fault are run,
  -- behind which the stored bits are the free run's. So the outcome is known.
  abbrev pub EarlyEndsAreSorted : (n : ℕ) → (faulty shown : List Bits) → Type 0
  EarlyEndsAreSorted n faulty shown =
      main_model g ≡ Some m → FreeRun g xs stored zs → length ys ≡ length xs → 1 ≤ n → fault.cycle + n ≤ length xs
      → FaultyRuns m (fault ∷ []) fault.cycle (at_cycle stored fault.cycle) (take n (drop fault.cycle xs)) (faulty ++ at_cycle stored (fault.cycle + n) ∷ []) shown
      → IsSorted g code l p mode t xs ys fault
      (outcome_seen mode
      (then_seen (then_seen (seen code l p t (take fault.cycle ys) (take fault.cycle zs)) (seen code l p t (take n (drop fault.cycle ys)) shown))
      (seen code l p t (drop n (drop fault.cycle ys)) (drop n (drop fault.cycle zs)))))

  -- All cycles from the fault's cycle on are run.
  abbrev pub WholeRunsAreSorted : (faulty shown : List Bits) → Type 0
  WholeRunsAreSorted faulty shown =
      main_model g ≡ Some m → FreeRun g xs stored zs → length ys ≡ length xs → fault.cycle ≤ length xs
      → FaultyRuns m (fault ∷ []) fault.cycle (at_cycle stored fault.cycle) (drop fault.cycle xs) faulty shown
      → IsSorted g code l p mode t xs ys fault
      (outcome_seen mode (then_seen (seen code l p t (take fault.cycle ys) (take fault.cycle zs)) (seen code l p t (drop fault.cycle ys) shown)))
