use Rattle.distance.proofs.PatternLemmas.{patterns_more}
use Rattle.distance.proofs.error_patterns.push_patterns.Goals as goal

pub loop-error-preserved : goal.loop-error-preserved
loop-error-preserved c =
    let syndrome = c.syndrome-syndrome.ensures in
    patterns_more c.args.c.now c.args.m c.args.errors.now c.loop-error.error-index _ _ _ _ c.loop-error-test.true c.in_ok-push.ensures.items syndrome.within syndrome.syndrome c.loop-error.invariant
