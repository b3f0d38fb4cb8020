use Rattle.netlist_spec.specs.Gates.{AnswersWithin}
use Rattle.source_laws.proofs.Nets.{nets_by_each, nets_hold_locally, more_fit, more_fit_each, bits_fit, has_bits}
use Rattle.source_laws.proofs.nets_fit_by_statements.Goals as goal

pub returns : goal.returns
returns c =
    record {
      each = λ file library net first end m nets. nets_by_each file library (AnswersWithin net first end) m nets;
      local = λ file library net first end s nets other. nets_hold_locally file library (AnswersWithin net first end) nets other s;
      more = λ file library net longer first end low high m nets fewer f. more_fit file library (AnswersWithin net first end) (AnswersWithin longer low high) fewer f;
      more_hold = λ file library net longer first end low high nets s fewer f. more_fit_each file library (AnswersWithin net first end) (AnswersWithin longer low high) fewer f;
      bits = λ file library net first end m nets v f a. bits_fit file library (AnswersWithin net first end) v a f;
      machine = λ file library m machine nets sound main. has_bits file library m machine nets sound main;
    }
