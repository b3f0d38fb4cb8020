-- The bits of the nets so far are added.
use Rattle.std.proofs.Common.{List, map, take}
use Rattle.netlist_spec.specs.Netlist.{Name}
use Rattle.blif_read.specs.View.{name_at}
use Rattle.audit_laws.specs.FirstBits.{FirstBits, named_bits}
use Rattle.independence_audit.specs.Kept.{Keeps}
use Rattle.independence_audit.specs.Table.{kind_of}
use Rattle.independence_audit.proofs.table.add_all.Given as goal

abbrev pub invariant-loop-i : goal.invariant-loop-i
invariant-loop-i l = (all : List Name) (kept : Name → FirstBits) → Keeps all l.initial.table kept → Keeps all l.table (λ n. named_bits (kind_of l.kind) 0 (map (name_at all) (take l.i l.ids)) n (kept n))
