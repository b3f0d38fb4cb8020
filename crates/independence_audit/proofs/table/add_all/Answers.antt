use Rattle.std.proofs.Common.{List, sym, ◌∙◌, ap, subst, map, take}
use Rattle.netlist_spec.specs.Netlist.{Name}
use Rattle.imp_text.specs.declared.names.NameId.{NameId}
use Rattle.blif_read.specs.View.{name_at}
use Rattle.audit_laws.specs.FirstBits.{named_bits}
use Rattle.independence_audit.specs.Kept.{Keeps}
use Rattle.independence_audit.specs.Table.{kind_of}
use Rattle.independence_audit.proofs.TableLemmas.{names_more, count_so_far}
use Rattle.independence_audit.proofs.table.add_all.Goals as goal

pub loop-i-preserved : goal.loop-i-preserved
loop-i-preserved c = λ all kept k.
    let none : NameId = record { 0 = 0 } in
    let ids = c.args.ids.now in
    let i = c.loop-i.i in
    let kind = kind_of c.args.kind in
    let h = c.loop-i-test.true in
    subst (λ (ns : List Name). Keeps all c.add.new.table (λ n. named_bits kind 0 ns n (kept n))) (sym (names_more all ids i none h))
    (c.add.ensures all (map (name_at all) (take i ids)) kind kept (c.numbered.ensures ∙ ap kind (count_so_far all ids i h)) (c.loop-i.invariant all kept k))
