use Rattle.block_code.proofs.Coding.{one_distance}
use Rattle.block_code.proofs.laws.codes_have_one_distance.Goals as goal

pub returns : goal.returns
returns c = one_distance
