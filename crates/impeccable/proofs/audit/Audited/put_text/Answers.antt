use Rattle.impeccable.proofs.audit.Audited.put_text.Goals as goal

pub returns-in-Independent : goal.returns-in-Independent
returns-in-Independent g c = rw c.in-Independent.is (rw c.deref.ensures.value at c.put_bits.ensures)

pub returns-in-OutputRead : goal.returns-in-OutputRead
returns-in-OutputRead g c = rw c.in-OutputRead.is (rw (c.name_of-net.ensures, c.cell_net-cell.ensures) at c.put_all-in-OutputRead.ensures)
