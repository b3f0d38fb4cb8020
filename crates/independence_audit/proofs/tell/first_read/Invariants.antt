-- None of the nets so far is an output that a cell drives.
use Rattle.std.proofs.Common.{◌≡◌, ◌&&◌, List, map, take, None}
use Rattle.std.specs.Prelude.{find}
use Rattle.netlist_spec.specs.Netlist.{Name, stands_in}
use Rattle.blif_read.specs.View.{name_at}
use Rattle.line_order.specs.Marks.{Marks}
use Rattle.independence_audit.proofs.tell.first_read.Given as goal

abbrev pub invariant-loop-id : goal.invariant-loop-id
invariant-loop-id l = (all outputs cells : List Name) → Marks all l.known.outputs outputs → Marks all l.known.cells cells → find (λ n. stands_in n outputs && stands_in n cells) (map (name_at all) (take l.id-index l.ins)) ≡ None
