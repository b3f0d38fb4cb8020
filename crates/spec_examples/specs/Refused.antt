-- Which premises the wrong guards don't meet.
use Rattle.std.specs.Prelude.{◌≡◌, ◌≢◌, ℕ, map, Some, slice_get}
use Rattle.guard_spec.specs.Codes.{detect, correct}
use Rattle.guard_spec.specs.Count.{Counts}
use Rattle.guard_spec.specs.Rails.{RailsTell}
use Rattle.guard_spec.specs.Regions.{Guarded, AreSeparate, HaveOwnNets, ReadDataAlone}
use Rattle.guard_spec.specs.Shaped.{IsShaped}
use Rattle.spec_examples.specs.Examples.{parity_code, parity_settings, inverter_file, inverter_layout}
use Rattle.containment.specs.Built.{IsBuilt}
use Rattle.spec_examples.specs.Toggle.{toggle, thrice_code}
use Rattle.spec_examples.specs.Wire.{wire}
use Rattle.spec_examples.specs.WrongGuards.{pair, pair_layout, sharing_guard, copying_guard, fresh_guard, checking_guard, early_guard, blind_guard, silent_guard, loud_guard, sharing_corrector, sharing_rails, copied_rail, one_rail_text, set_toggle, unset_guard}

-- A cell changes bits of others: a gate that two data bits share, a data net from which a check bit is taken, and a
-- corrector that serves all bits.
pub record SharedCellsAreRefused : Type 0 where
  pub shared_gate : Counts sharing_guard pair parity_code detect 1 pair_layout → ⊥
  pub fresh_checks : Counts fresh_guard toggle parity_code detect 1 inverter_layout → ⊥
  pub shared_corrector : Counts sharing_corrector toggle thrice_code correct 1 inverter_layout → ⊥

-- A region reads a gate of another one, or a check place in detection.
pub record StrayReadsAreRefused : Type 0 where
  pub shared_gate : AreSeparate sharing_guard → ⊥
  pub fresh_checks : AreSeparate fresh_guard → ⊥
  pub early_rails : AreSeparate early_guard → ⊥
  pub shared_corrector : AreSeparate sharing_corrector → ⊥
  pub shared_by_rails : AreSeparate sharing_rails → ⊥
  pub check_place : ReadDataAlone checking_guard parity_code inverter_layout.state → ⊥

-- Rails watch the nets that latches store, or no output words, or a rail is always 0 or always 1. A rail has a gate of
-- another one, or is a copy of it. There are too few rails.
pub record WrongRailsAreRefused : Type 0 where
  pub early : RailsTell early_guard parity_code inverter_layout 1 → ⊥
  pub blind : RailsTell blind_guard parity_code inverter_layout 1 → ⊥
  pub silent : RailsTell silent_guard parity_code inverter_layout 1 → ⊥
  pub loud : RailsTell loud_guard parity_code inverter_layout 1 → ⊥
  pub shared : RailsTell sharing_rails parity_code inverter_layout 1 → ⊥
  pub copied : RailsTell copied_rail parity_code inverter_layout 1 → ⊥
  pub too_few : IsShaped one_rail_text inverter_file parity_settings → ⊥

-- A check latch starts at 0 where it ought to start at 1, and an output is a copy of the data input that it ought to be.
pub record WrongNetsAreRefused : Type 0 where
  pub zero_checks : IsBuilt unset_guard set_toggle parity_code detect 1 inverter_layout → ⊥
  pub copied_input : HaveOwnNets copying_guard wire → ⊥

-- Two latches store one and the same net.
pub record ShareStoredNet (g : Guarded) : Type 0 where
  pub one : ℕ
  pub other : ℕ
  pub apart : one ≢ other
  pub net : ℕ
  pub of_one : slice_get (map (λ r. r.d) g.machine.latches) one ≡ Some net
  pub of_other : slice_get (map (λ r. r.d) g.machine.latches) other ≡ Some net
