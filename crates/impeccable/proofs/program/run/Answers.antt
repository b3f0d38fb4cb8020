-- The outcome is that of the command that was asked for.
use Rattle.impeccable.specs.Ended.{answer_of}
use Rattle.impeccable.proofs.DemoLemmas.{asked-demo}
use Rattle.impeccable.proofs.OutcomeLemmas.{asked-answers, asked-completes, asked-finds, asked-refuses, unasked}
use Rattle.impeccable.proofs.program.run.Goals as goal
use Rattle.impeccable.proofs.program.run.Goals.{in-Some, in-None}

pub returns-clause-answers : goal.returns-clause-answers
returns-clause-answers g c = elim c.match-read_command.branch [
  | in-Some w ↦ rw (w.files-is, w.out-is) (asked-answers _ _ (g.F.Files.seen c.args.files.now) (g.F.Files.seen w.perform-ended.new.files) (g.O.Sink.seen c.args.out.now) (g.O.Sink.seen w.perform-ended.new.out) (g.E.Sink.seen c.args.err.now) (g.E.Sink.seen c.tell.new.err) (answer_of w.perform-ended.result) c.outcome_of.result (rw w.in-Some.is at c.read_command.ensures.asked) (rw w.ended-is at c.outcome_of.ensures) w.perform-ended.ensures.answers w.perform-ended.ensures.own (rw w.ended-is at c.tell.ensures))
  | in-None w ↦ unasked _ _ (rw w.in-None.is at c.read_command.ensures.asked)
]

pub returns-clause-complete : goal.returns-clause-complete
returns-clause-complete g c = elim c.match-read_command.branch [
  | in-Some w ↦ rw (w.files-is, w.out-is) (asked-completes _ _ (g.F.Files.seen c.args.files.now) (g.F.Files.seen w.perform-ended.new.files) (g.O.Sink.seen c.args.out.now) (g.O.Sink.seen w.perform-ended.new.out) (answer_of w.perform-ended.result) c.outcome_of.result (rw w.in-Some.is at c.read_command.ensures.asked) (rw w.ended-is at c.outcome_of.ensures) w.perform-ended.ensures.answers)
  | in-None w ↦ unasked _ _ (rw w.in-None.is at c.read_command.ensures.asked)
]

pub returns-clause-finds : goal.returns-clause-finds
returns-clause-finds g c = elim c.match-read_command.branch [
  | in-Some w ↦ rw (w.files-is, w.out-is) (asked-finds _ _ (g.F.Files.seen c.args.files.now) (g.F.Files.seen w.perform-ended.new.files) (g.O.Sink.seen c.args.out.now) (g.O.Sink.seen w.perform-ended.new.out) (answer_of w.perform-ended.result) c.outcome_of.result (rw w.in-Some.is at c.read_command.ensures.asked) (rw w.ended-is at c.outcome_of.ensures) w.perform-ended.ensures.answers)
  | in-None w ↦ unasked _ _ (rw w.in-None.is at c.read_command.ensures.asked)
]

pub returns-clause-refuses : goal.returns-clause-refuses
returns-clause-refuses g c = elim c.match-read_command.branch [
  | in-Some w ↦ rw w.files-is (asked-refuses _ _ (g.F.Files.seen c.args.files.now) (g.F.Files.seen w.perform-ended.new.files) (g.O.Sink.seen c.args.out.now) (g.O.Sink.seen w.perform-ended.new.out) (answer_of w.perform-ended.result) c.outcome_of.result (rw w.in-Some.is at c.read_command.ensures.asked) (rw w.ended-is at c.outcome_of.ensures) w.perform-ended.ensures.answers)
  | in-None w ↦ unasked _ _ (rw w.in-None.is at c.read_command.ensures.asked)
]

pub returns-clause-demo : goal.returns-clause-demo
returns-clause-demo g c = elim c.match-read_command.branch [
  | in-Some w ↦ rw (w.files-is, w.out-is) (asked-demo _ _ (g.F.Files.seen c.args.files.now) (g.F.Files.seen w.perform-ended.new.files) (g.O.Sink.seen c.args.out.now) (g.O.Sink.seen w.perform-ended.new.out) c.outcome_of.result (rw w.in-Some.is at c.read_command.ensures.asked) (w.perform-ended.ensures.demo c.outcome_of.result (rw w.ended-is at c.outcome_of.ensures)))
  | in-None w ↦ unasked _ _ (rw w.in-None.is at c.read_command.ensures.asked)
]
