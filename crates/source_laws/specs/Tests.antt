-- The tests of soundness: what passes all of them is sound, and the first that finds something is told.
use Rattle.std.specs.Prelude.{◌≡◌, ◌<◌, List, None}
use Rattle.std.specs.List.{AllByRecursion}
use Rattle.netlist_spec.specs.Netlist.{Name, Model, File}
use Rattle.netlist_spec.specs.Covers.{Library}
use Rattle.netlist_spec.specs.Sound.{HasOneDriverEach, IsDrivenWhereRead, PlacesWell, IsMain, IsUsed, IsLoop, IsSound}
use Rattle.netlist_spec.specs.SoundFaults.{SoundFault, twice, no_such_model, bad_port, recursion, latch_inside, too_deep, undriven, bad_clocking, loop, reserved, too_large, rank, twice_in, no_such_model_in, bad_port_in, ContainsItself, HasLatchInside, IsTooDeep, undriven_in, clocking_in, reserved_in, too_large_in, Finds, IsRefusedWith}

module _ (file : File) (library : Library) where
  -- The file passes the test of this kind of fault, whatever names the fault tells.
  abbrev pub Passes : SoundFault → Type 0
  Passes (twice n) = (m : Model) → IsUsed file m → twice_in file library m ≡ None
  Passes (no_such_model n) = (m : Model) → IsUsed file m → no_such_model_in file library m ≡ None
  Passes (bad_port n f) = (m : Model) → IsUsed file m → bad_port_in file library m ≡ None
  Passes (recursion n) = (m : Model) → IsUsed file m → ContainsItself file library m → ⊥
  Passes (latch_inside n) = (m : Model) → IsUsed file m → HasLatchInside file library m → ⊥
  Passes (too_deep n) = (m : Model) → IsUsed file m → IsTooDeep file library m → ⊥
  Passes (undriven n) = (m : Model) → IsUsed file m → undriven_in file library m ≡ None
  Passes (bad_clocking n) = (m : Model) → IsMain file m → clocking_in file library m ≡ None
  Passes (loop ns) = (m : Model) → IsUsed file m → (nets : List Name) → IsLoop file library m nets → ⊥
  Passes (reserved n) = (m : Model) → IsMain file m → reserved_in file library m ≡ None
  Passes (too_large what) = (m : Model) → IsMain file m → too_large_in file library m ≡ None

  abbrev pub PassedTestsFindNothing : SoundFault → Type 0
  PassedTestsFindNothing fault = Passes fault → Finds file library fault → ⊥

  -- A file that passes all tests is sound.
  abbrev pub PassedFilesAreSound : Type 0
  PassedFilesAreSound = ((fault : SoundFault) → Passes fault) → IsSound file library

  -- What is found is told where the file passes the earlier tests.
  abbrev pub FirstFoundIsTold : SoundFault → Type 0
  FirstFoundIsTold fault = Finds file library fault → ((other : SoundFault) → rank other < rank fault → Passes other) → IsRefusedWith file library fault

  -- What single tests tell of a model: its nets have one driver each, its `.subckt` are placements, and what it reads is
  -- driven.
  abbrev pub OneDriverWhereNoneTwice : Model → Type 0
  OneDriverWhereNoneTwice m = twice_in file library m ≡ None → HasOneDriverEach file library m

  abbrev pub PlacementsWherePortsAreGood : Model → Type 0
  PlacementsWherePortsAreGood m =
      no_such_model_in file library m ≡ None → bad_port_in file library m ≡ None → AllByRecursion (λ s. PlacesWell file library s.what) m.statements

  abbrev pub DrivenWhereNoneUndriven : Model → Type 0
  DrivenWhereNoneUndriven m = undriven_in file library m ≡ None → IsDrivenWhereRead file library m
