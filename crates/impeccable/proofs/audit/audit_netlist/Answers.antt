-- Each step of the walk of `audit`, and what stops it there.
use Rattle.std.proofs.Common.{ap, ◌∙◌, map}
use Rattle.std.proofs.lemmas.Result.{err_from_is_err_and}
use Rattle.blif_read.specs.View.{file_of, model_of, name_at}
use Rattle.independence_audit.proofs.AuditLemmas.{no_subckts}
use Rattle.independence_audit.proofs.KnownLemmas.{shown_named}
use Rattle.impeccable.proofs.AuditLemmas.{few-bits, in-order, is-audit, is-main-model, is-prepared, out-of-order, unread}
use Rattle.impeccable.proofs.OrderedLemmas.{reads}
use Rattle.impeccable.proofs.audit.audit_netlist.Goals as goal

pub returns-in_err-file-clause-prepares : goal.returns-in_err-file-clause-prepares
returns-in_err-file-clause-prepares g c =
    let p = err_from_is_err_and c.from_residual.result c.from_residual.ensures.1 in
    rw (p.1, p.2) (unread c.args.netlist.now (g.F.Files.seen c.args.files.now) (g.F.Files.seen c.load_netlist.new.files) _ c.in_err-file.ensures.file)

pub returns-in_err-audit-clause-prepares : goal.returns-in_err-audit-clause-prepares
returns-in_err-audit-clause-prepares g c =
    let p = err_from_is_err_and c.from_residual-in_err-audit.result c.from_residual-in_err-audit.ensures.1 in
    let old = g.F.Files.seen c.args.files.now in
    let file = file_of c.in_ok-file.file in
    rw p.1 (out-of-order c.args.netlist.now old (g.F.Files.seen c.load_netlist.new.files) file _ _ (reads c.args.netlist.now old file c.in_ok-file.ensures.file) c.in_err-audit.ensures.fault p.2)

pub returns-clause-prepares : goal.returns-clause-prepares
returns-clause-prepares g c =
    let old = g.F.Files.seen c.args.files.now in
    let file = c.in_ok-file.file in
    let m = c.swap_remove-model.result in
    let first = c.swap_remove-model.ensures.value in
    let ordered = c.in_ok-audit.ensures.ordered in
    let held = reads c.args.netlist.now old (file_of file) c.in_ok-file.ensures.file in
    is-prepared c.args.netlist.now old (file_of file) (model_of m) (is-main-model file m first ordered) held (in-order c.args.netlist.now old (file_of file) ordered held) c.in_ok-audit.audit
    (is-audit file m first ordered c.in_ok-audit.audit c.in_ok-audit.ensures.audit)

pub returns-clause-ready : goal.returns-clause-ready
returns-clause-ready g c =
    let file = c.in_ok-file.file in
    let m = c.swap_remove-model.result in
    let first = c.swap_remove-model.ensures.value in
    let ordered = c.in_ok-audit.ensures.ordered in
    let cells = no_subckts file m first c.in_ok-file.ensures.is_file ordered in
    record {
      cells = cells;
      latches = ap (map (name_at m.names)) (rw c.deref.ensures.value at c.in_ok-latches.ensures) ∙ shown_named m.names m.statements.items;
      bits = few-bits m cells (file_of file) c.in_ok-audit.audit (is-audit file m first ordered c.in_ok-audit.audit c.in_ok-audit.ensures.audit);
    }
