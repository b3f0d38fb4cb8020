use Rattle.source_laws.proofs.Cones.{one_cost, driver_and_reads, given_has_no_cone}
use Rattle.source_laws.proofs.cones_are_drivers_and_reads.Goals as goal

pub returns : goal.returns
returns c = record { one_cost = one_cost; driver = λ file library m s x one d. driver_and_reads file library m one s x d; given = λ file library m x one given. given_has_no_cone file library m one x given }
