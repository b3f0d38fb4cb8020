use Rattle.guard_names.proofs.Pushed.{next_checks}
use Rattle.guard_names.proofs.labels.push_checks.Goals as goal

pub loop-word-preserved : goal.loop-word-preserved
loop-word-preserved c = next_checks c.args.columns c.loop-word.word c.args.labels.now.items c.loop-word.labels.items c.push_places.new.labels.items c.loop-word.invariant c.in_ok-push_places.ensures
