-- The data inputs among the ports so far are marked.
use Rattle.std.proofs.Common.{◌≡◌, List, ◌++◌, filter, length, map, not, take}
use Rattle.netlist_spec.specs.Netlist.{Name, stands_in}
use Rattle.blif_read.specs.declared.file.Port.{Port}
use Rattle.blif_read.specs.View.{name_at}
use Rattle.line_order.specs.Marks.{Marks}
use Rattle.line_order.proofs.marks.NetMarks.mark_data.Given as goal

abbrev pub invariant-loop-port : goal.invariant-loop-port
invariant-loop-port l =
    record {
      size : length l.self ≡ length l.initial.self;
      marked : (all listed nets : List Name) → Marks all l.clocks nets → Marks all l.initial.self listed
          → Marks all l.self (listed ++ filter (λ n. not (stands_in n nets)) (map (λ (port : Port). name_at all port.name) (take l.port-index l.ports)));
    }
