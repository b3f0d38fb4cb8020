use Rattle.std.proofs.Common.{arith}
use Rattle.source_loops.proofs.given.flags_of.Goals as goal

pub returns : goal.returns
returns c = λ listed m.
    record {
      distinct = m.distinct;
      each_name = omega (arith, c.loop-k.invariant.size, c.loop-k-test.false, c.loop-k.auto.k-end, c.len-k-end.ensures.count);
      marked = λ k h. c.loop-k.invariant.marked listed m k (omega (arith, h, c.loop-k-test.false, c.len-k-end.ensures.count));
    }
