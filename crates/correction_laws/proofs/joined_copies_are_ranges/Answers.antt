use Rattle.correction_laws.proofs.Ranges.{copy_range, check_range, range_stays}
use Rattle.correction_laws.proofs.joined_copies_are_ranges.Goals as goal

pub returns-clause-copy : goal.returns-clause-copy
returns-clause-copy c = copy_range

pub returns-clause-check : goal.returns-clause-check
returns-clause-check c = check_range

pub returns-clause-stays : goal.returns-clause-stays
returns-clause-stays c = range_stays
