use Rattle.guard_made.proofs.Guard.{is_guard}
use Rattle.guard_made.proofs.made_machines_are_guards.Goals as goal

pub returns : goal.returns
returns c = λ m g code l rails made source is_code state output radius. is_guard m g code l rails made source is_code state output radius
