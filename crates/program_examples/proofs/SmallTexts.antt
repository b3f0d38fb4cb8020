-- The texts that commands print, for small files and settings.
use Rattle.std.proofs.Common.{◌≡◌, refl, sym, ◌∙◌, ◌<◌, ◌≤◌, [], ◌∷◌, length, codes, true, false, arith, lit<, lit≤}
use Rattle.std.specs.Fmt.{digits}
use Rattle.netlist_spec.specs.Netlist.{Statement, Model}
use Rattle.netlist_spec.specs.SourceRun.{Bits}
use Rattle.netlist_spec.specs.Covers.{number_of}
use Rattle.guard_spec.specs.Codes.{weight, encoded, IsLeastData}
use Rattle.netlist_spec.specs.CellBits.{Bit, latch_bit, output_bit, own, IsBitOf, HasOneBit, IsIndependentCell, shared}
use Rattle.program_spec.specs.Printed.{IsRunText, IsReport, IsIndependentText, IsFindingText}
use Rattle.spec_examples.specs.Examples.{inverter_file, parity_code, two_latches}
use Rattle.spec_examples.proofs.Small.{inverter_runs}
use Rattle.program_examples.proofs.Accepted.{parity_distance}
use Rattle.spec_examples.proofs.Audit.{shared_is_found, apart_is_independent}

pub inverter_is_printed : IsRunText inverter_file ([] ∷ [] ∷ []) [] (codes "0\n1\n")
inverter_is_printed =
    record { states = (false ∷ []) ∷ (true ∷ []) ∷ (false ∷ []) ∷ []; outs = (false ∷ []) ∷ (true ∷ []) ∷ []; is_run = inverter_runs; is_text = refl }

parity_least : IsLeastData parity_code 2 (true ∷ [])
parity_least = record { places = refl; nonzero = lit< tt; reached = refl; least = least }
  where
    least : (w : Bits) → length w ≡ 1 → 0 < weight w → weight (encoded parity_code w) ≡ 2 → number_of (true ∷ []) ≤ number_of w
    least [] e h k = absurd (omega arith)
    least (true ∷ []) e h k = lit≤ tt
    least (false ∷ []) e h k = absurd (omega arith)
    least (b ∷ c ∷ bs) e h k = absurd (omega arith)

pub parity_is_reported : IsReport parity_code (codes "code 2 1\ndistance 2\nword 1\ndetects 1\ncorrects 0\n")
unfolding digits
parity_is_reported = record { d = 2; is_distance = parity_distance; u = true ∷ []; is_least = parity_least; is_text = refl }

-- a bit of a cell that has one is its bit
its_bit : (m : Model) (s : Statement) → IsIndependentCell m s → (bit : Bit) → IsBitOf m s bit → HasOneBit m s bit
its_bit m s c bit h = record { has = h; only = λ other k. c.one.only other k ∙ sym (c.one.only bit h) }

abbrev apart_model : Model
apart_model = two_latches (codes "x")

pub independent_is_printed : IsIndependentText (record { models = two_latches (codes "x") ∷ [] }) (codes "independent 4\na latch a\nb latch b\nn latch a\ny output y\n")
unfolding digits
independent_is_printed =
    let cells = apart_is_independent.0 in
    record {
      model = apart_model;
      is_model = refl;
      independent = apart_is_independent;
      bits = latch_bit 0 ∷ latch_bit 1 ∷ latch_bit 0 ∷ output_bit 0 ∷ [];
      are_bits = (
        its_bit apart_model _ cells.0 (latch_bit 0) refl,
        (
          its_bit apart_model _ cells.1.0 (latch_bit 1) refl,
          (its_bit apart_model _ cells.1.1.0 (latch_bit 0) (codes "n", refl, own), (its_bit apart_model _ cells.1.1.1.0 (output_bit 0) (codes "y", refl, own), tt)),
        ),
      );
      is_text = refl;
    }

pub finding_is_printed : IsFindingText (record { models = two_latches (codes "n") ∷ [] }) (codes "shared n latch a latch b\n")
finding_is_printed =
    record {
      model = two_latches (codes "n");
      is_model = refl;
      finding = shared (codes "n") (latch_bit 0) (latch_bit 1);
      is_finding = shared_is_found;
      is_text = refl;
    }
