-- The flat netlist is prepared, and then written.
use Rattle.std.proofs.lemmas.Result.{err_from_is_err_and}
use Rattle.program_spec.specs.Commands.{flat}
use Rattle.impeccable.specs.declared.ended.Success.TheVariants.{Done}
use Rattle.impeccable.specs.Ended.{stop_answer}
use Rattle.impeccable.proofs.OwnLemmas.{keeps}
use Rattle.impeccable.proofs.StepLemmas.{put-ends, write-stops}
use Rattle.impeccable.proofs.flat.write_flat.Goals as goal

pub returns-in_err-named-clause-answers : goal.returns-in_err-named-clause-answers
returns-in_err-named-clause-answers g c =
    let p = err_from_is_err_and c.from_residual.result c.from_residual.ensures.1 in
    rw (p.1, p.2) (c.in_err-named.ensures.prepares (g.O.Sink.seen c.args.out.now))

pub returns-in_err-write-clause-answers : goal.returns-in_err-write-clause-answers
returns-in_err-write-clause-answers g c =
    let p = err_from_is_err_and c.from_residual-in_err-write.result c.from_residual-in_err-write.ensures.1 in
    rw p.1 (write-stops (flat c.args.netlist.now) Done (g.F.Files.seen c.args.files.now) (g.F.Files.seen c.read_netlist.new.files) (g.O.Sink.seen c.args.out.now) (g.O.Sink.seen c.write.new.out) _ _ _ c.in_ok-named.ensures.prepares c.in_err-write.ensures.puts p.2)

pub returns-clause-answers : goal.returns-clause-answers
returns-clause-answers g c =
    put-ends (flat c.args.netlist.now) Done (g.F.Files.seen c.args.files.now) (g.F.Files.seen c.read_netlist.new.files) (g.O.Sink.seen c.args.out.now) (g.O.Sink.seen c.write.new.out) _ _ c.in_ok-named.ensures.prepares c.in_ok-write.ensures.puts

pub returns-in_err-named-clause-own : goal.returns-in_err-named-clause-own
returns-in_err-named-clause-own g c =
    let p = err_from_is_err_and c.from_residual.result c.from_residual.ensures.1 in
    rw (p.1, p.2) c.in_err-named.ensures.own

pub returns-in_err-write-clause-own : goal.returns-in_err-write-clause-own
returns-in_err-write-clause-own g c =
    let p = err_from_is_err_and c.from_residual-in_err-write.result c.from_residual-in_err-write.ensures.1 in
    rw p.1 (keeps (g.F.Files.seen c.args.files.now) (g.F.Files.seen c.read_netlist.new.files) (stop_answer p.0) c.in_ok-named.ensures.own)
