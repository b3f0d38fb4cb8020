-- The verdicts of `flat` on a source that has a meaning, and on one that hasn't.
use Rattle.std.proofs.Common.{◌≡◌, ◌<◌, [], codes, get_or, Some, refl, inl, inr, arith, lit≤}
use Rattle.netlist_spec.specs.Netlist.{Model}
use Rattle.netlist_spec.specs.Covers.{empty_library}
use Rattle.netlist_spec.specs.SoundFaults.{SoundFault, twice, no_such_model, bad_port, recursion, latch_inside, too_deep, undriven, bad_clocking, loop, reserved, too_large, rank, Finds, IsRefusedWith, twice_in}
use Rattle.program_spec.specs.Commands.{flat}
use Rattle.program_spec.specs.Refusals.{unsound}
use Rattle.program_spec.specs.Walk.{passes, refused}
use Rattle.program_spec.specs.Verdict.{IsVerdict}
use Rattle.spec_examples.specs.Examples.{inverter_file}
use Rattle.spec_examples.proofs.Small.{inverter_reads}
use Rattle.spec_examples.proofs.Inverter.{inverter_is_sound}
use Rattle.spec_examples.proofs.TwoModels.{used_nowhere, nothing}
use Rattle.program_examples.specs.ProgramExamples.{audited_contents, inverter_contents, placing_file}
use Rattle.program_examples.proofs.Audited.{placing_reads}

pub inverter_passes : IsVerdict (flat (codes "inv.blif")) inverter_contents passes
inverter_passes = inr (lit≤ tt, inl (inverter_file, inverter_reads, inl (tt, inverter_is_sound, refl)))

none_earlier : (other : SoundFault) → rank other < 2 → Finds placing_file empty_library other → ⊥
none_earlier (twice n) h f = used_nowhere placing_file (λ m a. twice_in placing_file empty_library m ≡ Some a) n (λ e. nothing n e, tt) f
none_earlier (no_such_model n) h f = omega arith
none_earlier (bad_port m n) h f = omega arith
none_earlier (recursion m) h f = omega arith
none_earlier (latch_inside m) h f = omega arith
none_earlier (too_deep m) h f = omega arith
none_earlier (undriven n) h f = omega arith
none_earlier (bad_clocking n) h f = omega arith
none_earlier (loop ns) h f = omega arith
none_earlier (reserved n) h f = omega arith
none_earlier (too_large what) h f = omega arith

abbrev placing_model : Model
placing_model = get_or placing_file.models 0 (record { name = []; line = 0; names = []; inputs = []; outputs = []; clocks = []; statements = [] })

placing_is_unsound : IsRefusedWith placing_file empty_library (no_such_model (codes "s"))
placing_is_unsound =
    record {
      found = record { before = []; model = placing_model; after = []; split = refl; used = (placing_model, refl, 0, refl); here = refl; none_before = tt };
      first = none_earlier;
    }

pub placing_has_no_meaning : IsVerdict (flat (codes "placing.blif")) audited_contents (refused (unsound (no_such_model (codes "s"))))
placing_has_no_meaning =
    inr (lit≤ tt, inl (placing_file, placing_reads, inr (unsound (no_such_model (codes "s")), (no_such_model (codes "s"), placing_is_unsound, refl), refl)))
