use Rattle.audit_laws.proofs.Table.{one_set, reads_set, named_set}
use Rattle.audit_laws.proofs.passes_set_entries.Goals as goal

pub returns : goal.returns
returns c = record { entry = λ names i k kept after entry d e f h. one_set names i k kept after entry d e f h; reads = λ m later g d. reads_set m later g d; own = λ names kind ks kept j k d e. named_set names kind ks kept j k d e }
