use Rattle.refusals.proofs.lines.put_unread.Goals as goal

pub returns : goal.returns
returns g c = rw c.as_bytes.ensures.value at c.put_tailed.ensures
