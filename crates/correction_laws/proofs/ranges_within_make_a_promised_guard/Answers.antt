use Rattle.correction_laws.proofs.Guard.{guard_of, few_guard_of}
use Rattle.correction_laws.proofs.ranges_within_make_a_promised_guard.Goals as goal

pub returns-clause-sized : goal.returns-clause-sized
returns-clause-sized c = guard_of

pub returns-clause-few : goal.returns-clause-few
returns-clause-few c = few_guard_of
