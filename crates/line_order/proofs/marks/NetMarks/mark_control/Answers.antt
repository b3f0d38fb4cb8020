use Rattle.line_order.proofs.marks.NetMarks.mark_control.Goals as goal

pub returns-in-Some-clause-marked : goal.returns-in-Some-clause-marked
returns-in-Some-clause-marked c = λ all listed m. rw (c.in-Latch.is, c.in-Edge.is, c.in-Some.is) (c.mark.ensures.marked all listed m)
