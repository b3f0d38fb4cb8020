use Rattle.audit_laws.proofs.Along.{all_along, along_later}
use Rattle.audit_laws.proofs.bits_are_known_in_time.Goals as goal

pub returns : goal.returns
returns c = record { all = λ m n bit order. all_along m n bit order; later = λ m before g after bit order e. along_later m before g after bit order e }
