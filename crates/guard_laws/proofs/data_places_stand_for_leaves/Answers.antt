use Rattle.guard_laws.proofs.Leaves.{stand_for_leaves}
use Rattle.guard_laws.proofs.data_places_stand_for_leaves.Goals as goal

pub returns : goal.returns
returns c = λ g source code l k nets is_code leaves partition many are within. stand_for_leaves g source code l k nets is_code leaves partition many are within
