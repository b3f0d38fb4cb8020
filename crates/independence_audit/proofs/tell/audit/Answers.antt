use Rattle.independence_audit.proofs.AuditLemmas.{no_subckts, gates_in_order, audit_of_file}
use Rattle.independence_audit.proofs.tell.audit.Goals as goal

pub audit_model-requires-clause-cells : goal.audit_model-requires-clause-cells
audit_model-requires-clause-cells c = no_subckts c.args.f.now c.index.result.now c.index.ensures c.requires.is_file c.in_ok-check_order.ensures.ordered

pub returns-clause-audit : goal.returns-clause-audit
returns-clause-audit c =
    let f = c.args.f.now in
    let m = c.index.result.now in
    let o = c.in_ok-check_order.ensures.ordered in
    audit_of_file f m c.index.ensures c.requires.is_file o c.in_ok-audit_model.field-0 (c.in_ok-audit_model.ensures (gates_in_order f m c.index.ensures c.requires.is_file o))
