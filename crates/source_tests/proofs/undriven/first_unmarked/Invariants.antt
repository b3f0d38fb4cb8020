-- No net so far is unmarked.
use Rattle.std.proofs.Common.{◌≡◌, List, map, find, not, drop}
use Rattle.netlist_spec.specs.Netlist.{Name, stands_in}
use Rattle.blif_read.specs.View.{name_at}
use Rattle.line_order.specs.Marks.{Marks}
use Rattle.source_tests.proofs.undriven.first_unmarked.Given as goal

abbrev pub invariant-loop-net : goal.invariant-loop-net
invariant-loop-net l =
    (all listed : List Name) → Marks all l.marks listed → find (λ n. not (stands_in n listed)) (map (name_at all) (drop l.net-index l.nets)) ≡ find (λ n. not (stands_in n listed)) (map (name_at all) l.nets)
