use Rattle.guard_tally.proofs.GuardShape.{its_shape}
use Rattle.guard_tally.proofs.laws.guards_have_their_shape.Goals as goal

pub returns : goal.returns
returns c = its_shape
