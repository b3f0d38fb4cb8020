use Rattle.imp_io.proofs.BlockLemmas.{Gives-append}
use Rattle.netlist_spec.specs.Written.{Named}
use Rattle.std.proofs.Common.{ap}
use Rattle.blif_write.proofs.text.put_head.Goals as goal

pub returns : goal.returns
returns g c =
    let unknown = ap (λ (h : Named). h.unknown_inits) c.g.view_is in
    let model = ap (λ (h : Named). h.model) c.g.view_is in
    rw (← unknown, ← model, ← c.bytes.ensures.bytes) (Gives-append c.put_number.ensures c.put_line.ensures)
