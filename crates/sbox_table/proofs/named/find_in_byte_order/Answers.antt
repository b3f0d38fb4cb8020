use Rattle.std.proofs.Common.{Some, Ok, Err, sym, ap, ◌∙◌, rules, tests}
use Rattle.std.specs.Cmp.Lexicographic.{slice_cmp}
use Rattle.std.specs.Ordering.{nat_cmp}
use Rattle.std.proofs.lemmas.Fn.{always_returns_same}
use Rattle.reduction.proofs.NameOrder.{found_by_halving}
use Rattle.sbox_table.specs.declared.table.NamedTable.{NamedTable}
use Rattle.sbox_table.proofs.named.find_in_byte_order.Goals as goal

pub returns-in-Ok : goal.returns-in-Ok
returns-in-Ok c =
    let found = found_by_halving (λ (t : NamedTable). t.name) c.args.name.now c.args.tables.now (Ok c.in-Ok.place) c.requires c.in-Ok.ensures.bound
    (c.in-Ok.ensures.position (λ t. slice_cmp nat_cmp t.name c.args.name.now) (always_returns_same _ _ _ (λ a r f k. search (rules, tests)))) in
    ap (λ (t : NamedTable). Some t) c.index-tables-place.is ∙ sym (found c.index-tables-place.result)

pub returns-in-Err : goal.returns-in-Err
returns-in-Err c =
    sym (found_by_halving (λ (t : NamedTable). t.name) c.args.name.now c.args.tables.now (Err c.in-Err.field-0) c.requires c.in-Err.ensures.bound
    (c.in-Err.ensures.position (λ t. slice_cmp nat_cmp t.name c.args.name.now) (always_returns_same _ _ _ (λ a r f k. search (rules, tests)))))
