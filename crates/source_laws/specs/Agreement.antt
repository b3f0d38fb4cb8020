-- Valuations that fit a sound model agree where they agree on its inputs, clocks and latch outputs.
use Rattle.std.specs.Prelude.{◌≡◌, ◌++◌, List, [], length}
use Rattle.std.specs.List.{AllByRecursion}
use Rattle.netlist_spec.specs.Netlist.{Name, Statement, Model, File}
use Rattle.netlist_spec.specs.Covers.{Library, IsLibrary}
use Rattle.netlist_spec.specs.Fits.{Valuation, Fits}
use Rattle.netlist_spec.specs.Models.{data_inputs, latch_outputs}
use Rattle.netlist_spec.specs.SourceRun.{Bits, Stream, SourceCycle, SourceRun}
use Rattle.netlist_spec.specs.Sound.{driven_nets, read_nets, IsMain, IsUsed, IsSoundModel, IsSound}
use Rattle.source_laws.specs.Settling.{given_nets, AreOrdered, OthersAreLeft}

-- Two valuations give each net of a list the same bit.
abbrev pub AgreeOn : Valuation → Valuation → List Name → Type 0
AgreeOn v w ns = AllByRecursion (λ n. v n ≡ w n) ns

module _ (file : File) (library : Library) where
  -- They agree on each net that the model drives or reads.
  abbrev pub FittingValuationsAgree : Model → Valuation → Valuation → Type 0
  FittingValuationsAgree m v w =
      IsSound file library → IsUsed file m → Fits file library m v → Fits file library m w → AgreeOn v w (given_nets m)
      → AgreeOn v w (driven_nets file library m ++ read_nets file library m)

  -- One cycle of a sound source has one outcome at most.
  abbrev pub CyclesHaveOneOutcome : Model → (x s y next y' next' : Bits) → Type 0
  CyclesHaveOneOutcome m x s y next y' next' =
      IsSound file library → IsMain file m → SourceCycle file library m x s y next → SourceCycle file library m x s y' next' → (y ≡ y') × (next ≡ next')

  abbrev pub SourcesHaveOneRun : Stream → (states outs states' outs' : List Bits) → Type 0
  SourcesHaveOneRun xs states outs states' outs' =
      IsSound file library → SourceRun file library xs states outs → SourceRun file library xs states' outs' → (states ≡ states') × (outs ≡ outs')

  -- The statements of a sound model can be ordered.
  abbrev pub SoundModelsAreOrdered : Model → Type 0
  SoundModelsAreOrdered m =
      IsSoundModel file library m → (order : List Statement) × AreOrdered file library m (given_nets m) order × OthersAreLeft file library m order []

  -- Whatever bits the inputs, clocks and latch outputs of a used model have, some valuation with them fits.
  abbrev pub SomeValuationFits : Model → Valuation → Type 0
  SomeValuationFits m given =
      IsLibrary library → IsSound file library → IsUsed file m → (v : Valuation) × Fits file library m v × AgreeOn v given (given_nets m)

  -- One cycle of a sound source has an outcome at each input and state.
  abbrev pub CyclesHaveAnOutcome : Model → (x s : Bits) → Type 0
  CyclesHaveAnOutcome m x s =
      IsLibrary library → IsSound file library → IsMain file m → length x ≡ length (data_inputs m) → length s ≡ length (latch_outputs m)
      → (y next : Bits) × SourceCycle file library m x s y next
