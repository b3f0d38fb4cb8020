use Rattle.distance.proofs.LevelLemmas.{front_more}
use Rattle.distance.proofs.error_patterns.push_with.Goals as goal

pub loop-word-preserved : goal.loop-word-preserved
loop-word-preserved c = front_more c.args.place c.args.words.now c.loop-word.word-index _ _ _ c.requires c.loop-word-test.true c.if-word-one.false c.in_ok-push.ensures.items c.loop-word.invariant
