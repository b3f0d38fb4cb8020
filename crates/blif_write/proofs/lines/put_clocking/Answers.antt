use Rattle.imp_io.proofs.BlockLemmas.{Gives-append}
use Rattle.std.proofs.Common.{append-nil}
use Rattle.named_netlist.proofs.NetLemmas.{control-in}
use Rattle.blif_write.proofs.lines.put_clocking.Goals as goal

pub control_bytes-requires : goal.control_bytes-requires
control_bytes-requires g c = control-in _ c.in-Edge.rising c.in-Edge.control (rw c.in-Edge.is at c.requires)

pub returns-in-Edge : goal.returns-in-Edge
returns-in-Edge g c =
    rw (c.in-Edge.is, ← c.edge_bytes.ensures, ← c.control_bytes.ensures, append-nil c.control_bytes.result.now) (Gives-append c.put_word.ensures c.put_word-in-Edge.ensures)
