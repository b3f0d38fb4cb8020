use Rattle.gate_net.proofs.OneEvaluation.{some_evaluation, one_evaluation}
use Rattle.gate_net.proofs.laws.gate_lists_have_one_evaluation.Goals as goal

pub returns-clause-some : goal.returns-clause-some
returns-clause-some c = some_evaluation

pub returns-clause-one : goal.returns-clause-one
returns-clause-one c = one_evaluation
