use Rattle.refusals.proofs.lines.put_front.Goals as goal

pub returns-in-Some : goal.returns-in-Some
returns-in-Some g c = rw c.in-Some.is (rw (c.as_bytes-line.ensures.value, c.format.ensures.text) at c.put_all.ensures)

pub returns-in-None : goal.returns-in-None
returns-in-None g c = rw c.in-None.is c.put_all-in-None.ensures
