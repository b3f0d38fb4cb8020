use Rattle.fault_sim.proofs.RunLemmas.{first_of_run, further_in_run}
use Rattle.fault_sim.proofs.laws.cycles_make_a_run.Goals as goal

pub returns-clause-first : goal.returns-clause-first
returns-clause-first c = first_of_run

pub returns-clause-further : goal.returns-clause-further
returns-clause-further c = further_in_run
