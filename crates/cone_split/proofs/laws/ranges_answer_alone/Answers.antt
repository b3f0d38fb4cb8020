use Rattle.cone_split.proofs.Ranges.{range_same}
use Rattle.cone_split.proofs.laws.ranges_answer_alone.Goals as goal

pub returns : goal.returns
returns c = range_same
