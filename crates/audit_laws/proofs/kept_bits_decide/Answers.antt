use Rattle.audit_laws.proofs.Findings.{kept_decide}
use Rattle.audit_laws.proofs.kept_bits_decide.Goals as goal

pub returns : goal.returns
returns c = λ m s kept. kept_decide m s kept
