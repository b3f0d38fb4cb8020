use Rattle.guard_laws.proofs.Copies.{copy_range, check_range}
use Rattle.guard_laws.proofs.copies_are_ranges.Goals as goal

pub returns-clause-copy : goal.returns-clause-copy
returns-clause-copy c = copy_range

pub returns-clause-check : goal.returns-clause-check
returns-clause-check c = check_range
