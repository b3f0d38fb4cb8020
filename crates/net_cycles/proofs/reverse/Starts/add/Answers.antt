use Rattle.std.proofs.Common.{get_or, arith}
use Rattle.std.proofs.lemmas.List.{get_or_default}
use Rattle.net_cycles.proofs.ReverseLemmas.{adds_more}
use Rattle.net_cycles.proofs.reverse.Starts.add.Goals as goal

pub loop-end-preserved : goal.loop-end-preserved
loop-end-preserved c =
    let ends = c.args.ends.now in
    let i = c.loop-end.end-index in
    adds_more c.args.node ends i (get_or ends i 0) c.args.self.now c.loop-end.self c.push.new.self c.loop-end-test.true (get_or_default ends i 0 (get_or ends i 0) c.loop-end-test.true)
    (omega (arith, c.requires i 0 c.loop-end-test.true, c.loop-end.invariant.size)) c.in_ok-push.ensures c.loop-end.invariant
