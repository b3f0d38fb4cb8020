use Rattle.std.proofs.Common.{◌∙◌, ap, map, List}
use Rattle.netlist_spec.specs.Netlist.{names}
use Rattle.netlist_spec.specs.FileOrder.{a_statement}
use Rattle.netlist_spec.specs.Ordered.{is_at_fault}
use Rattle.imp_text.specs.declared.names.NameId.{NameId}
use Rattle.blif_read.specs.View.{name_at, cover_of}
use Rattle.line_order.proofs.TableLemmas.{told_if}
use Rattle.line_order.proofs.tables.Tables.statement_fault.Goals as goal

pub returns-in-Names : goal.returns-in-Names
returns-in-Names c = λ m passed t.
    rw c.in-Names.is
    (c.unordered_if.ensures ∙ told_if c.is_wrong_gate.result c.args.s.now.line _
    (c.is_wrong_gate.ensures m passed (cover_of c.in-Names.cover) t
    ∙ ap (λ (ids : List NameId). is_at_fault m passed (a_statement (names (map (name_at m.names) ids) (name_at m.names c.in-Names.out) (cover_of c.in-Names.cover)))) c.deref.ensures.value))

pub returns-in-Latch : goal.returns-in-Latch
returns-in-Latch c = λ m passed t.
    rw c.in-Latch.is
    (c.unordered_if-in-Latch.ensures ∙ told_if c.is_wrong_latch.result c.args.s.now.line _ (c.is_wrong_latch.ensures m passed c.in-Latch.init t))
