use Rattle.correction_laws.proofs.Steps.{appended, left_out, correctors_stay, one_more}
use Rattle.correction_laws.proofs.Writes.{written}
use Rattle.correction_laws.proofs.correctors_are_joined.Goals as goal

pub returns-clause-appended : goal.returns-clause-appended
returns-clause-appended c = appended

pub returns-clause-left_out : goal.returns-clause-left_out
returns-clause-left_out c = left_out

pub returns-clause-stay : goal.returns-clause-stay
returns-clause-stay c = correctors_stay

pub returns-clause-one_more : goal.returns-clause-one_more
returns-clause-one_more c = one_more

pub returns-clause-written : goal.returns-clause-written
returns-clause-written c = written
