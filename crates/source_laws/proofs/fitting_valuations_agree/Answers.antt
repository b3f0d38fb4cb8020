use Rattle.source_laws.proofs.Agree.{valuations_agree}
use Rattle.source_laws.proofs.fitting_valuations_agree.Goals as goal

pub returns : goal.returns
returns c = valuations_agree
