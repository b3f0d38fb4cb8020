use Rattle.std.proofs.Common.{◌≡◌, ◌∙◌, ap, ℕ, map}
use Rattle.netlist_spec.specs.Covers.{Linear, parity, selected}
use Rattle.reduction.proofs.Inputs.{bits_at}
use Rattle.reduction.proofs.Outputs.{by_places, bits_same}
use Rattle.linear_layer.proofs.parities.lower.Goals as goal

pub returns-clause-values : goal.returns-clause-values
returns-clause-values c =
    bits_same c.args.net.now c.parities.new.net c.parities.result _ _
    (λ v.
    let rows_are : c.deref.result.now ≡ c.args.layer.now.rows = c.deref.ensures.value ∙ ap (λ (l : Linear). l.rows) c.layer.view_is in
    ap (map (λ (row : ℕ). parity (selected row (bits_at v c.args.ins.now)))) rows_are
    ∙ by_places (λ (row : ℕ). parity (selected row (bits_at v c.args.ins.now))) c.args.layer.now.rows)
    c.parities.ensures.values
