use Rattle.source_laws.proofs.Loops.{left_over}
use Rattle.source_laws.proofs.nets_left_over_are_unsettled.Goals as goal

pub returns : goal.returns
returns c = left_over
