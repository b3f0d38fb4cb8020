use Rattle.containment.proofs.Dual.{contains_both}
use Rattle.containment.proofs.guards_correct_and_tell.Goals as goal

pub returns : goal.returns
returns c = λ g source code d t s l guard more wide rails. contains_both g source code d t s l guard.coded guard.built guard.tells more wide rails
