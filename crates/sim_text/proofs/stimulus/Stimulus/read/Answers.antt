use Rattle.std.proofs.Common.{◌<◌, arith}
use Rattle.sim_text.proofs.StimulusLemmas.{so_far_more}
use Rattle.sim_text.proofs.stimulus.Stimulus.read.Goals as goal

pub lines-preserved : goal.lines-preserved
lines-preserved c =
    let few : c.lines.cycles < 1000000 = omega arith in
    so_far_more c.args.bytes.now c.args.inputs c.lines.lines c.next_line.new.self c.lines.cycles c.lines.bits c.push_row.new.bits c.in-Some.number c.next_line.new.words.items c.deref.result.now c.lines.invariant
    (record { left = rw c.in-Some.is at c.in_ok-number.ensures.some; source = c.next_line.ensures.source; copy = c.deref.ensures.value })
    few
    (rw c.if-not-fits.false at c.in_ok-fits.ensures)
