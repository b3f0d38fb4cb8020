use Rattle.source_laws.proofs.FileLines.{least_is_first, later_lines}
use Rattle.source_laws.proofs.least_lines_come_first.Goals as goal

pub returns : goal.returns
returns c = record { first = least_is_first; above = later_lines }
