use Rattle.imp_io.proofs.BlockLemmas.{Gives-append}
use Rattle.netlist_spec.specs.Written.{Named}
use Rattle.std.proofs.Common.{ap}
use Rattle.blif_write.proofs.lines.put_latch.Goals as goal

pub returns : goal.returns
returns g c =
    let clocking = ap (λ (h : Named). h.clocking) c.g.view_is in
    rw (← clocking) (Gives-append (Gives-append (Gives-append (Gives-append c.put.ensures c.put_net.ensures) c.put_net-2.ensures) c.put_clocking.ensures) c.put_init.ensures)
