use Rattle.std.proofs.Common.{◌∙◌}
use Rattle.netlist_spec.specs.Placed.{port_names}
use Rattle.imp_text.proofs.NamesLemmas.{stands_in-append}
use Rattle.blif_read.specs.View.{name_at}
use Rattle.line_order.proofs.clocking.is_declared.Goals as goal

pub returns-in-Some : goal.returns-in-Some
returns-in-Some c = λ m t.
    rw (c.in-Edge.is, c.in-Some.is)
    (c.has.ensures m.names _ t ∙ stands_in-append (name_at m.names c.in-Some.id) (port_names m.inputs) (port_names m.clocks))
