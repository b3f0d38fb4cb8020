use Rattle.source_loops.proofs.given.mark_latch.Goals as goal

pub returns-in-Latch-clause-marked : goal.returns-in-Latch-clause-marked
returns-in-Latch-clause-marked c = λ all listed m. rw c.in-Latch.is (c.mark.ensures.marked all listed m)
