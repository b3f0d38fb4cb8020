-- The audit is prepared, and then written.
use Rattle.std.proofs.lemmas.Result.{err_from_is_err_and}
use Rattle.program_spec.specs.Commands.{audit}
use Rattle.impeccable.specs.Audit.{audited_success}
use Rattle.impeccable.specs.Ended.{stop_answer, success_answer}
use Rattle.impeccable.proofs.OwnLemmas.{keeps}
use Rattle.impeccable.proofs.StepLemmas.{put-ends, put-stops}
use Rattle.impeccable.proofs.audit.write_audit.Goals as goal

pub returns-in_err-audited-clause-answers : goal.returns-in_err-audited-clause-answers
returns-in_err-audited-clause-answers g c =
    let p = err_from_is_err_and c.from_residual.result c.from_residual.ensures.1 in
    rw (p.1, p.2) (c.in_err-audited.ensures.prepares (g.O.Sink.seen c.args.out.now))

pub returns-in_err-write_text-clause-answers : goal.returns-in_err-write_text-clause-answers
returns-in_err-write_text-clause-answers g c =
    let p = err_from_is_err_and c.from_residual-in_err-write_text.result c.from_residual-in_err-write_text.ensures.1 in
    rw p.1 (put-stops (audit c.args.netlist.now) (audited_success c.in_ok-audited.audited) (g.F.Files.seen c.args.files.now) (g.F.Files.seen c.audit_netlist.new.files) (g.O.Sink.seen c.args.out.now) (g.O.Sink.seen c.write_text.new.out) _ _ _ c.in_ok-audited.ensures.prepares c.in_err-write_text.ensures p.2)

pub returns-clause-answers : goal.returns-clause-answers
returns-clause-answers g c =
    rw c.success_of.ensures (put-ends (audit c.args.netlist.now) (audited_success c.in_ok-audited.audited) (g.F.Files.seen c.args.files.now) (g.F.Files.seen c.audit_netlist.new.files) (g.O.Sink.seen c.args.out.now) (g.O.Sink.seen c.write_text.new.out) _ _ c.in_ok-audited.ensures.prepares c.in_ok-write_text.ensures)

pub returns-in_err-audited-clause-own : goal.returns-in_err-audited-clause-own
returns-in_err-audited-clause-own g c =
    let p = err_from_is_err_and c.from_residual.result c.from_residual.ensures.1 in
    rw (p.1, p.2) c.in_err-audited.ensures.own

pub returns-in_err-write_text-clause-own : goal.returns-in_err-write_text-clause-own
returns-in_err-write_text-clause-own g c =
    let p = err_from_is_err_and c.from_residual-in_err-write_text.result c.from_residual-in_err-write_text.ensures.1 in
    rw p.1 (keeps (g.F.Files.seen c.args.files.now) (g.F.Files.seen c.audit_netlist.new.files) (stop_answer p.0) c.in_ok-audited.ensures.own)

pub returns-clause-own : goal.returns-clause-own
returns-clause-own g c = keeps (g.F.Files.seen c.args.files.now) (g.F.Files.seen c.audit_netlist.new.files) (success_answer c.success_of.result) c.in_ok-audited.ensures.own
