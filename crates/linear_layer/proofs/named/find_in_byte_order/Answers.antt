use Rattle.std.proofs.Common.{Some, Ok, Err, sym, ap, ◌∙◌, rules, tests}
use Rattle.std.specs.Cmp.Lexicographic.{slice_cmp}
use Rattle.std.specs.Ordering.{nat_cmp}
use Rattle.std.proofs.lemmas.Fn.{always_returns_same}
use Rattle.reduction.proofs.NameOrder.{found_by_halving}
use Rattle.linear_layer.specs.declared.layer.NamedLinear.{NamedLinear}
use Rattle.linear_layer.proofs.named.find_in_byte_order.Goals as goal

pub returns-in-Ok : goal.returns-in-Ok
returns-in-Ok c =
    let found = found_by_halving (λ (l : NamedLinear). l.name) c.args.name.now c.args.linears.now (Ok c.in-Ok.place) c.requires c.in-Ok.ensures.bound
    (c.in-Ok.ensures.position (λ l. slice_cmp nat_cmp l.name c.args.name.now) (always_returns_same _ _ _ (λ a r f k. search (rules, tests)))) in
    ap (λ (l : NamedLinear). Some l) c.index-linears-place.is ∙ sym (found c.index-linears-place.result)

pub returns-in-Err : goal.returns-in-Err
returns-in-Err c =
    sym (found_by_halving (λ (l : NamedLinear). l.name) c.args.name.now c.args.linears.now (Err c.in-Err.field-0) c.requires c.in-Err.ensures.bound
    (c.in-Err.ensures.position (λ l. slice_cmp nat_cmp l.name c.args.name.now) (always_returns_same _ _ _ (λ a r f k. search (rules, tests)))))
