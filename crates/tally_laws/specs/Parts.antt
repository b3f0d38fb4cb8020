-- Runs in parts: a run with one fault is the free run up to the fault's cycle, and the free run again from where the
-- stored bits are the same.
use Rattle.std.specs.Prelude.{◌≡◌, ℕ, ◌+◌, ◌<◌, ◌≤◌, ◌⊎◌, ◌↔◌, List, [], ◌∷◌, ◌++◌, length, Some}
use Rattle.netlist_spec.specs.Netlist.{Model, File}
use Rattle.netlist_spec.specs.Models.{main_model, init_bits}
use Rattle.netlist_spec.specs.SourceRun.{Bits, Stream, CycleStep, RunsFrom}
use Rattle.netlist_spec.specs.Runs.{Fault, FaultyCycle, Run}
use Rattle.guard_spec.specs.Contained.{at_cycle}

-- A run over two streams in a row: the second part starts with the stored bits that the first ends with.
pub record RunInParts (step : CycleStep) (c : ℕ) (s : Bits) (xs ys : Stream) (states outs : List Bits) : Type 0 where
  pub before : List Bits
  pub now : Bits
  pub after : List Bits
  pub shown : List Bits
  pub later : List Bits
  pub states_in_parts : states ≡ before ++ now ∷ after
  pub outs_in_parts : outs ≡ shown ++ later
  pub lengths : (length before ≡ length xs) × (length shown ≡ length xs)
  pub is_now : at_cycle states (length xs) ≡ now
  pub first : RunsFrom step c s xs (before ++ now ∷ []) shown
  pub second : RunsFrom step (c + length xs) now ys (now ∷ after) later

-- the runs of a file's main model from a cycle and stored bits on, under some faults
abbrev pub FaultyRuns : Model → List Fault → ℕ → Bits → Stream → List Bits → List Bits → Type 0
FaultyRuns m faults c s xs states outs = RunsFrom (λ c x s y next. FaultyCycle m faults c x s y next) c s xs states outs

-- Each run over two streams in a row is in parts, and parts that fit are a run.
abbrev pub RunsAreInParts : Model → List Fault → (c : ℕ) (s : Bits) (xs ys : Stream) (states outs : List Bits) → Type 0
RunsAreInParts m faults c s xs ys states outs =
    FaultyRuns m faults c s (xs ++ ys) states outs → RunInParts (λ c x s y next. FaultyCycle m faults c x s y next) c s xs ys states outs

abbrev pub PartsAreRuns : Model → List Fault → (c : ℕ) (s now : Bits) (xs ys : Stream) (states more outs later : List Bits) → Type 0
PartsAreRuns m faults c s now xs ys states more outs later =
    FaultyRuns m faults c s xs (states ++ now ∷ []) outs → FaultyRuns m faults (c + length xs) now ys more later
    → FaultyRuns m faults c s (xs ++ ys) (states ++ more) (outs ++ later)

-- One more cycle.
abbrev pub RunsGrow : Model → List Fault → (c : ℕ) (s now x y next : Bits) → (xs : Stream) (states outs : List Bits) → Type 0
RunsGrow m faults c s now x y next xs states outs =
    FaultyRuns m faults c s xs (states ++ now ∷ []) outs → FaultyCycle m faults (c + length xs) x now y next
    → FaultyRuns m faults c s (xs ++ x ∷ []) ((states ++ now ∷ []) ++ next ∷ []) (outs ++ y ∷ [])

-- In cycles other than its own a fault does nothing.
abbrev pub OtherCyclesAreFree : Model → Fault → (c : ℕ) (s : Bits) (xs : Stream) (states outs : List Bits) → Type 0
OtherCyclesAreFree m fault c s xs states outs =
    (fault.cycle < c) ⊎ (c + length xs ≤ fault.cycle) → FaultyRuns m [] c s xs states outs ↔ FaultyRuns m (fault ∷ []) c s xs states outs

-- A run with one fault is put together from a part of the free run up to the fault's cycle, the cycles with the fault and
-- some after it, and the free run from where the stored bits are the same. At the end of the stream the last part has no
-- cycle.
abbrev pub FaultyRunsByParts : (g : File) (m : Model) (fault : Fault) (now met : Bits) (before between after : Stream) (stored faulty rest zs shown later : List Bits) → Type 0
FaultyRunsByParts g m fault now met before between after stored faulty rest zs shown later =
    main_model g ≡ Some m → fault.cycle ≡ length before → 1 ≤ length between
    → FaultyRuns m [] 0 (init_bits m) before (stored ++ now ∷ []) zs
    → FaultyRuns m (fault ∷ []) (length before) now between (faulty ++ met ∷ []) shown
    → FaultyRuns m [] (length before + length between) met after rest later
    → Run g (before ++ (between ++ after)) (fault ∷ []) (stored ++ (faulty ++ rest)) (zs ++ (shown ++ later))

-- A fault behind the end of the stream does nothing.
abbrev pub LateFaultsDoNothing : (g : File) (fault : Fault) (xs : Stream) (stored zs : List Bits) → Type 0
LateFaultsDoNothing g fault xs stored zs = length xs ≤ fault.cycle → Run g xs [] stored zs → Run g xs (fault ∷ []) stored zs
