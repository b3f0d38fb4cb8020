use Rattle.correction_laws.proofs.Values.{right_at}
use Rattle.correction_laws.proofs.joined_lists_evaluate_machines.Goals as goal

pub returns : goal.returns
returns c = λ source code l t k joined correctors nets first is_source partition is u w x s answers inputs long near evaluation root served. right_at source code l t k joined correctors nets first is_source partition is u w x s answers inputs long near evaluation root served
