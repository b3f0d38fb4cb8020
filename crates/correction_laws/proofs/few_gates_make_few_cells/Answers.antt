use Rattle.correction_laws.proofs.Few.{few_row, few_cells}
use Rattle.correction_laws.proofs.few_gates_make_few_cells.Goals as goal

pub returns-clause-row : goal.returns-clause-row
returns-clause-row c = few_row

pub returns-clause-guard : goal.returns-clause-guard
returns-clause-guard c = few_cells
