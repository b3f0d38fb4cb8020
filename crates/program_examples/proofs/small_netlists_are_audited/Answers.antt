use Rattle.program_examples.proofs.Audited.{apart_is_done, placing_is_refused, shared_is_found}
use Rattle.program_examples.proofs.small_netlists_are_audited.Goals as goal

pub returns-clause-found : goal.returns-clause-found
returns-clause-found c = shared_is_found

pub returns-clause-done : goal.returns-clause-done
returns-clause-done c = apart_is_done

pub returns-clause-refused : goal.returns-clause-refused
returns-clause-refused c = placing_is_refused
