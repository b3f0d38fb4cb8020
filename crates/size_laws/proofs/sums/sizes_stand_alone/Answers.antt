use Rattle.guard_spec.specs.Codes.{rail_count}
use Rattle.size_laws.proofs.AloneSizes.{size_alone, stopped_size}
use Rattle.size_laws.proofs.sums.sizes_stand_alone.Goals as goal

pub returns-clause-alone : goal.returns-clause-alone
returns-clause-alone c = λ file s m l n k. size_alone file s.library m s.code s.mode s.bound (rail_count s.mode s.bound) l n k

pub returns-clause-stopped : goal.returns-clause-stopped
returns-clause-stopped c = stopped_size
