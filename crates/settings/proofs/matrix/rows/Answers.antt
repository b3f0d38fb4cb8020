use Rattle.std.proofs.Common.{◌≡◌, ℕ, ◌+◌, ◌^◌, ◌<◌, Some, map, sym, ◌∙◌, ap, arith}
use Rattle.std.proofs.lemmas.List.{map-append, length_push}
use Rattle.std.proofs.lemmas.List.Elements.{All-push}
use Rattle.guard_spec.specs.Codes.{bits_of}
use Rattle.toml.specs.View.{view}
use Rattle.settings.specs.Matrix.{row_at}
use Rattle.settings.proofs.Gives.{values_none, values_more, values_all}
use Rattle.settings.proofs.matrix.rows.Goals as goal

pub returns-in_err-row-clause-bits : goal.returns-in_err-row-clause-bits
returns-in_err-row-clause-bits c =
    rw c.from_residual.ensures (sym (values_none (row_at c.args.width) c.args.values.now c.loop-value.value-index c.value-item.result (omega arith) c.value-item.is (sym c.in_err-row.ensures.bits)))

pub loop-value-preserved : goal.loop-value-preserved
loop-value-preserved c =
    let (read, count, within) = c.loop-value.invariant in
    let here : row_at c.args.width (view c.value-item.result) ≡ Some (bits_of c.args.width c.in_ok-row.row) = sym c.in_ok-row.ensures.bits in
    rw c.push.ensures.items (
      rw map-append (values_more (row_at c.args.width) c.args.values.now c.loop-value.value-index c.value-item.result (map (bits_of c.args.width) c.loop-value.rows.items) (bits_of c.args.width c.in_ok-row.row) (omega arith) c.value-item.is read here),
      length_push c.loop-value.rows.items c.in_ok-row.row ∙ ap (λ (n : ℕ). n + 1) count,
      All-push (λ (row : ℕ). row < 2 ^ c.args.width) c.loop-value.rows.items c.in_ok-row.row within c.in_ok-row.ensures.within,
    )

pub returns-clause-bits : goal.returns-clause-bits
returns-clause-bits c = sym (values_all (row_at c.args.width) c.args.values.now c.loop-value.value-index (map (bits_of c.args.width) c.loop-value.rows.items) (omega arith) c.loop-value.invariant.0)
