use Rattle.audit_laws.proofs.GateOrder.{model_in_order, no_fault_of}
use Rattle.audit_laws.proofs.ordered_files_are_in_order.Goals as goal

pub returns : goal.returns
returns c = λ file low high o lines. model_in_order o.model (no_fault_of file o) low high lines
