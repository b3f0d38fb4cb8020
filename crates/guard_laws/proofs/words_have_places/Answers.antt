use Rattle.guard_laws.proofs.Places.{have_places}
use Rattle.guard_laws.proofs.words_have_places.Goals as goal

pub returns : goal.returns
returns c = λ source code l is_code. have_places source code l is_code
