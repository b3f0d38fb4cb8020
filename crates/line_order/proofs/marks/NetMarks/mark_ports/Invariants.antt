-- The ports so far are marked.
use Rattle.std.proofs.Common.{◌≡◌, List, ◌++◌, length, map, take}
use Rattle.netlist_spec.specs.Netlist.{Name}
use Rattle.blif_read.specs.declared.file.Port.{Port}
use Rattle.blif_read.specs.View.{name_at}
use Rattle.line_order.specs.Marks.{Marks}
use Rattle.line_order.proofs.marks.NetMarks.mark_ports.Given as goal

abbrev pub invariant-loop-port : goal.invariant-loop-port
invariant-loop-port l =
    record {
      size : length l.self ≡ length l.initial.self;
      marked : (all listed : List Name) → Marks all l.initial.self listed → Marks all l.self (listed ++ map (λ (port : Port). name_at all port.name) (take l.port-index l.ports));
    }
