use Rattle.std.proofs.Common.{◌≡◌, sym, ◌∙◌, ap, ◌∷◌, false, not, decimal}
use Rattle.netlist_spec.specs.Netlist.{stands_in}
use Rattle.source_placements.proofs.PortLemmas.{number_given}
use Rattle.source_placements.proofs.missing.missing_number.Goals as goal

pub loop-i-preserved : goal.loop-i-preserved
loop-i-preserved c =
    let given = c.args.given.now in
    let i = c.loop-i.i in
    let found : not (stands_in (105 ∷ decimal i) given) ≡ false =
    ap (λ n. not (stands_in n given)) (sym (c.bytes.ensures.bytes ∙ c.in_ok-name.ensures)) ∙ ap not (sym c.if-not-is_given.ensures) in
    number_given (λ n. not (stands_in n given)) (λ k. 105 ∷ decimal k) i c.args.count c.loop-i-test.true found ∙ c.loop-i.invariant
