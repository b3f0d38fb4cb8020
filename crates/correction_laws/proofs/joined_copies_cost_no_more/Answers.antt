use Rattle.correction_laws.proofs.Costs.{copy_cost, check_cost, cone_cost, column_cones_cost}
use Rattle.correction_laws.proofs.joined_copies_cost_no_more.Goals as goal

pub returns-clause-copy : goal.returns-clause-copy
returns-clause-copy c = copy_cost

pub returns-clause-check : goal.returns-clause-check
returns-clause-check c = check_cost

pub returns-clause-cone : goal.returns-clause-cone
returns-clause-cone c = cone_cost

pub returns-clause-cones : goal.returns-clause-cones
returns-clause-cones c = column_cones_cost
