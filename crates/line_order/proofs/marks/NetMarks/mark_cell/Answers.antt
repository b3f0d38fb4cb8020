use Rattle.line_order.proofs.marks.NetMarks.mark_cell.Goals as goal

pub returns-in-Names-clause-marked : goal.returns-in-Names-clause-marked
returns-in-Names-clause-marked c = λ all listed m. rw c.in-Names.is (c.mark.ensures.marked all listed m)

pub returns-in-Latch-clause-marked : goal.returns-in-Latch-clause-marked
returns-in-Latch-clause-marked c = λ all listed m. rw c.in-Latch.is (c.mark-in-Latch.ensures.marked all listed m)
