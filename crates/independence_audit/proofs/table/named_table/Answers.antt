use Rattle.std.proofs.Common.{sym, ◌∙◌, ap, subst, length, map, List}
use Rattle.audit_laws.specs.FirstBits.{no_bit, named_bits}
use Rattle.netlist_spec.specs.CellBits.{latch_bit, output_bit}
use Rattle.blif_read.specs.View.{name_at}
use Rattle.independence_audit.specs.declared.kept.Kept.{Kept}
use Rattle.independence_audit.specs.Kept.{Keeps}
use Rattle.independence_audit.proofs.TableLemmas.{none_kept, written}
use Rattle.independence_audit.proofs.table.named_table.Goals as goal

pub returns : goal.returns
returns c = λ all d e.
    let items = c.in_ok-table.table.items in
    let first = none_kept all items c.args.nets d (c.in_ok-table.ensures.items_if_clones_equal (λ y e. e)) e in
    let begins : Keeps all c.as_mut_slice.result.now (λ n. no_bit) = subst (λ (xs : List Kept). Keeps all xs (λ n. no_bit)) (sym c.as_mut_slice.ensures.value) first in
    subst (λ (xs : List Kept). Keeps all xs (λ n. named_bits output_bit 0 (map (name_at all) c.args.outputs.now) n (named_bits latch_bit 0 (map (name_at all) c.args.latches.now) n no_bit)))
    (sym (written c.add_both.new.table items c.in_ok-table.table.len (c.add_both.auto.table ∙ ap length c.as_mut_slice.ensures.value) c.in_ok-table.table.ok.0)) (c.add_both.ensures all (λ n. no_bit) begins)
