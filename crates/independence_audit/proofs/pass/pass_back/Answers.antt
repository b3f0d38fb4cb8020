use Rattle.std.proofs.Common.{drop}
use Rattle.independence_audit.proofs.PassLemmas.{gates_from, earlier_done}
use Rattle.independence_audit.proofs.pass.pass_back.Goals as goal

pub loop-i-preserved : goal.loop-i-preserved
loop-i-preserved c = λ m marks k.
    let ss = c.args.statements.now in
    earlier_done m ss c.loop-i.i c.index-statements-i.result c.pass_statement.new.table c.loop-i-test.true c.loop-i.auto.i (c.pass_statement.ensures m (gates_from m.names (drop c.loop-i.i ss)) marks (c.loop-i.invariant m marks k))
