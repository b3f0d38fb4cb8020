use Rattle.line_order.proofs.marks.NetMarks.mark_if.Goals as goal

pub returns-then-test-clause-marked : goal.returns-then-test-clause-marked
returns-then-test-clause-marked c = λ all listed m. rw c.if-test.true (c.mark.ensures.marked all listed m)
