use Rattle.gate_net.proofs.OneEvaluation.{some_values, one_valuation, one_cycle}
use Rattle.gate_net.proofs.laws.machines_have_one_cycle.Goals as goal

pub returns-clause-some : goal.returns-clause-some
returns-clause-some c = some_values

pub returns-clause-one : goal.returns-clause-one
returns-clause-one c = one_valuation

pub returns-clause-same_step : goal.returns-clause-same_step
returns-clause-same_step c = one_cycle
