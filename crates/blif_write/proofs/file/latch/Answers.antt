use Rattle.std.proofs.Common.{◌∙◌}
use Rattle.gate_net.specs.Machine.{latch_row}
use Rattle.blif_write.proofs.FileLemmas.{bit-is, latch-spells}
use Rattle.blif_write.proofs.file.latch.Goals as goal

pub returns-clause-spells : goal.returns-clause-spells
returns-clause-spells c =
    latch-spells c.args.g.now c.args.q.0 (latch_row c.args.row) c.net_number.new.names c.net_number-2.new.names c.clocking.new.names c.in_ok-d.d c.in_ok-q.q c.in_ok-clocking.clocking c.from.result
    c.in_ok-d.ensures.place c.in_ok-q.ensures.names c.in_ok-q.ensures.place c.in_ok-clocking.ensures.names c.in_ok-clocking.ensures.same c.in_ok-clocking.ensures.within (c.from.ensures ∙ bit-is c.args.row.init)
