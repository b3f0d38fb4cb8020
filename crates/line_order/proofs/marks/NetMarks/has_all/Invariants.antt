-- The names so far are marked.
use Rattle.std.proofs.Common.{◌≡◌, List, take, true}
use Rattle.std.specs.List.{list_all}
use Rattle.netlist_spec.specs.Netlist.{Name, stands_in}
use Rattle.imp_text.specs.declared.names.NameId.{NameId}
use Rattle.blif_read.specs.View.{name_at}
use Rattle.line_order.specs.Marks.{Marks}
use Rattle.line_order.proofs.marks.NetMarks.has_all.Given as goal

abbrev pub invariant-loop-id : goal.invariant-loop-id
invariant-loop-id l =
    (all listed : List Name) → Marks all l.self listed → list_all (λ (id : NameId). stands_in (name_at all id) listed) (take l.id-index l.ids) ≡ true
