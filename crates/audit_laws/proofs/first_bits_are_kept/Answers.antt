use Rattle.audit_laws.proofs.FirstBits.{merged_twice, named_grow}
use Rattle.audit_laws.proofs.Along.{kept_along, in_turn}
use Rattle.audit_laws.proofs.first_bits_are_kept.Goals as goal

pub returns : goal.returns
returns c = record { along = λ m gates n. kept_along m gates n; once_more = λ kind i ks k n kept. named_grow kind i ks k n kept; twice = λ a b o q. merged_twice a b o q; in_turn = λ m later g n. in_turn m later g n }
