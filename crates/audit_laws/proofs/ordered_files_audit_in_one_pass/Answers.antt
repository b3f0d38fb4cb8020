use Rattle.audit_laws.proofs.OnePass.{in_one_pass, read_in_one_pass}
use Rattle.audit_laws.proofs.ordered_files_audit_in_one_pass.Goals as goal

pub returns : goal.returns
returns c = record { by_lines = λ file low high o lines. in_one_pass file low high o lines; read = λ file is_file o. read_in_one_pass file is_file o }
