use Rattle.impeccable.proofs.lines.put_number.Goals as goal

pub returns : goal.returns
returns g c = rw (← c.format.ensures.text, ← c.as_bytes.ensures.value) c.put_all.ensures
