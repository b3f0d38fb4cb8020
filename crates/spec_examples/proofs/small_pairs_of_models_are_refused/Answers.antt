use Rattle.spec_examples.proofs.TwoModels.{ring_of_models_is_refused, around_is_refused}
use Rattle.spec_examples.proofs.small_pairs_of_models_are_refused.Goals as goal

pub returns-clause-ring : goal.returns-clause-ring
returns-clause-ring c = ring_of_models_is_refused

pub returns-clause-around : goal.returns-clause-around
returns-clause-around c = around_is_refused
