-- How a run with one fault is sorted when it ends early.
use Rattle.std.specs.Prelude.{◌≡◌, ℕ, ◌+◌, ◌≤◌, List, [], ◌∷◌, ◌++◌, length, Some}
use Rattle.netlist_spec.specs.Netlist.{Model, File}
use Rattle.netlist_spec.specs.Models.{main_model, init_bits}
use Rattle.netlist_spec.specs.SourceRun.{Bits, Stream}
use Rattle.netlist_spec.specs.Runs.{Fault, Run}
use Rattle.guard_spec.specs.Codes.{Code, Mode}
use Rattle.guard_spec.specs.Words.{Layout}
use Rattle.guard_spec.specs.Tally.{Outcome, outcome_of}
use Rattle.tally_laws.specs.Parts.{FaultyRuns}
use Rattle.tally_laws.specs.Seen.{then_seen, seen, outcome_seen}

-- This is the outcome of a run of the file with this fault, where the source shows ys: what a tally says of each fault.
abbrev pub IsSorted : (g : File) (code : Code) (l : Layout) (p : ℕ) (mode : Mode) (t : ℕ) (xs : Stream) (ys : List Bits) → Fault → Outcome → Type 0
IsSorted g code l p mode t xs ys fault o = (stored zs : List Bits) × Run g xs (fault ∷ []) stored zs × (o ≡ outcome_of code l p mode t ys zs)

-- The stream and what the source shows in three parts: before the fault's cycle, from it to where the stored bits are
-- those of the free run, and from there on. The first and the last part are of the free run, and the second has the fault.
pub record IsRunInThree (g : File) (m : Model) (fault : Fault) (before between after : Stream) (zs shown later : List Bits) : Type 0 where
  pub is_main : main_model g ≡ Some m
  pub in_cycle : fault.cycle ≡ length before
  pub some_cycle : 1 ≤ length between
  pub stored : List Bits
  pub now : Bits
  pub faulty : List Bits
  pub met : Bits
  pub rest : List Bits
  pub first : FaultyRuns m [] 0 (init_bits m) before (stored ++ now ∷ []) zs
  pub middle : FaultyRuns m (fault ∷ []) (length before) now between (faulty ++ met ∷ []) shown
  pub last : FaultyRuns m [] (length before + length between) met after rest later

-- The outcome is that of what is seen of the three parts.
abbrev pub FaultsAreSortedByParts : (g : File) (m : Model) (code : Code) (l : Layout) (p : ℕ) (mode : Mode) (t : ℕ) (fault : Fault) (before between after : Stream) (ys zs wanted shown more later : List Bits) → Type 0
FaultsAreSortedByParts g m code l p mode t fault before between after ys zs wanted shown more later =
    IsRunInThree g m fault before between after zs shown later
    → length ys ≡ length before → length wanted ≡ length between → length more ≡ length after
    → IsSorted g code l p mode t (before ++ (between ++ after)) (ys ++ (wanted ++ more)) fault
    (outcome_seen mode (then_seen (then_seen (seen code l p t ys zs) (seen code l p t wanted shown)) (seen code l p t more later)))

-- A fault behind the end of the stream is sorted as the free run is.
abbrev pub LateFaultsAreSorted : (g : File) (code : Code) (l : Layout) (p : ℕ) (mode : Mode) (t : ℕ) (fault : Fault) (xs : Stream) (stored ys zs : List Bits) → Type 0
LateFaultsAreSorted g code l p mode t fault xs stored ys zs =
    length xs ≤ fault.cycle → Run g xs [] stored zs → length zs ≡ length ys → IsSorted g code l p mode t xs ys fault (outcome_seen mode (seen code l p t ys zs))
