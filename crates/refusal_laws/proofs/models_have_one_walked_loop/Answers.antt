use Rattle.refusal_laws.proofs.Walk.{one_first_unsettled, one_walked_loop}
use Rattle.refusal_laws.proofs.models_have_one_walked_loop.Goals as goal

pub returns : goal.returns
returns c = record { unsettled = λ file library m ns n k f g. one_first_unsettled file library m ns n k f g; walked = λ file library m nets others one v w. one_walked_loop file library m one nets others v w }
