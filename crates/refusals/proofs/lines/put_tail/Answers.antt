use Rattle.imp_io.proofs.PutLemmas.{Puts-nil}
use Rattle.refusals.proofs.lines.put_tail.Goals as goal

pub returns-in-Nothing : goal.returns-in-Nothing
returns-in-Nothing g c = rw c.in-Nothing.is (Puts-nil _ tt)

pub returns-in-Name : goal.returns-in-Name
returns-in-Name g c = rw c.in-Name.is c.put_escaped.ensures

pub returns-in-Pair : goal.returns-in-Pair
returns-in-Pair g c = rw c.in-Pair.is c.put_pair.ensures

pub returns-in-Each : goal.returns-in-Each
returns-in-Each g c = rw c.in-Each.is c.put_each.ensures
