use Rattle.refusal_laws.proofs.OneRefusal.{one_refusal}
use Rattle.refusal_laws.proofs.files_have_one_refusal.Goals as goal

pub returns : goal.returns
returns c = λ file library fault other v w. one_refusal file library fault other v w
