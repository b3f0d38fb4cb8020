use Rattle.correction_laws.proofs.Detecting.{copy_few, check_few, rail_few}
use Rattle.correction_laws.proofs.copies_cost_no_more.Goals as goal

pub returns-clause-copy : goal.returns-clause-copy
returns-clause-copy c = copy_few

pub returns-clause-check : goal.returns-clause-check
returns-clause-check c = check_few

pub returns-clause-rail : goal.returns-clause-rail
returns-clause-rail c = rail_few
