use Rattle.std.proofs.Common.{map}
use Rattle.blif_read.specs.View.{name_at}
use Rattle.line_order.proofs.TableLemmas.{gate_told}
use Rattle.line_order.proofs.tables.Tables.is_wrong_gate.Goals as goal

pub returns : goal.returns
returns c = λ m passed cover t.
    gate_told m passed (map (name_at m.names) c.args.ins.now) (name_at m.names c.args.out) c.is_driven-driven.result c.has_all-known.result (c.is_driven-driven.ensures m passed t) (c.has_all-known.ensures m.names _ t.known)
