-- No port so far is a clock net that is read.
use Rattle.std.proofs.Common.{◌≡◌, List, drop}
use Rattle.netlist_spec.specs.Netlist.{Name}
use Rattle.line_order.specs.Marks.{Marks}
use Rattle.main_check.proofs.Firsts.{first_some}
use Rattle.main_check.proofs.ClockLemmas.{read_at}
use Rattle.main_check.proofs.clocking.first_read.Given as goal

abbrev pub invariant-loop-port : goal.invariant-loop-port
invariant-loop-port l =
    (all nets reads : List Name) → Marks all l.clocks nets → Marks all l.read reads → first_some (read_at all nets reads) (drop l.port-index l.ports) ≡ first_some (read_at all nets reads) l.ports
