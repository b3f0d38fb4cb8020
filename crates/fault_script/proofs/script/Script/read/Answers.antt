use Rattle.std.proofs.Common.{refl, sym}
use Rattle.std.proofs.lemmas.Result.{err_from_is_err_and}
use Rattle.fault_script.specs.Entries.{said_by}
use Rattle.fault_script.proofs.ReadLemmas.{line_fits, line_fails}
use Rattle.fault_script.proofs.script.Script.read.Goals as goal

pub lines-preserved : goal.lines-preserved
lines-preserved c =
    line_fits c.args.sim.now.cells c.args.bytes.now c.lines.lines c.next_line.new.self c.lines.script c.in-Some.number c.next_line.new.words.items c.deref.result.now c.lines.invariant
    (record { left = rw c.in-Some.is at c.in_ok-number.ensures.some; source = c.next_line.ensures.source; copy = c.deref.ensures.value })
    (said_by c.args.bytes.now c.in-Some-entry_of.entry)
    (sym c.in-Some-entry_of.ensures.entry)
    (record { cell = c.in-Some-cell.cell; value = c.in-Some-entry_of.entry.value })
    c.cell.ensures.distinct
    c.in-Some-cell.ensures.place
    c.add.new.self
    refl
    c.in_ok-add.ensures.fits
    c.in_ok-add.ensures.here
    c.in_ok-add.ensures.others

pub returns-in_err-add-clause-fault : goal.returns-in_err-add-clause-fault
returns-in_err-add-clause-fault c =
    let fails = line_fails c.args.sim.now.cells c.args.bytes.now c.lines.lines c.next_line.new.self c.lines.script c.in-Some.number c.next_line.new.words.items c.deref.result.now c.lines.invariant
    (record { left = rw c.in-Some.is at c.in_ok-number.ensures.some; source = c.next_line.ensures.source; copy = c.deref.ensures.value })
    (said_by c.args.bytes.now c.in-Some-entry_of.entry)
    (sym c.in-Some-entry_of.ensures.entry)
    (record { cell = c.in-Some-cell.cell; value = c.in-Some-entry_of.entry.value })
    c.cell.ensures.distinct
    c.in-Some-cell.ensures.place
    c.in_err-add.field-0.0
    c.in_err-add.ensures.fault
    in
    let p = err_from_is_err_and c.from_residual-in_err-add.result c.from_residual-in_err-add.ensures.1 in
    rw (p.1, p.2) fails
