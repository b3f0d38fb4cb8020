use Rattle.std.proofs.Common.{◌≡◌, false, [], ◌∷◌, List, Some, ◌<◌, ◌≤◌, length, map, option_map, sym, ◌∙◌, ap, inl, inr, arith, lit≤}
use Rattle.std.proofs.lemmas.Bool.Decides.{nat_tests}
use Rattle.std.specs.Prelude.{◌==◌}
use Rattle.std.proofs.lemmas.List.{length-map}
use Rattle.guard_spec.specs.Codes.{Code}
use Rattle.guard_spec.specs.SettingsFile.{code_of}
use Rattle.block_code.specs.Shape.{code_of as numbers_code}
use Rattle.toml.specs.View.{view}
use Rattle.toml.specs.declared.value.Value.{Value}
use Rattle.settings.proofs.Texts.{no_rows, many_rows, value_rows, numbers_are_rows}
use Rattle.settings.proofs.matrix.code.Goals as goal

some_values : (vs : List Value) → false ≡ (length vs == 0) → 1 ≤ length vs
some_values [] h = cc
some_values (v ∷ vs) h = omega arith

pub returns-then-is_empty : goal.returns-then-is_empty
returns-then-is_empty c texts all =
    let ds = map view c.args.values.now in
    let count = length-map c.args.values.now view in
    elim c.then-is_empty.either [
      | inl empty ↦
          let none : length ds < 1 = grind (arith, nat_tests, c.is_empty.ensures, empty, count) in
          ap (option_map code_of) (sym (no_rows 12 16 ds texts all none))
      | inr many ↦
          let past : 12 < length ds = omega (arith, many.1, count) in
          ap (option_map code_of) (sym (many_rows 12 16 ds texts all (lit≤ tt) past))
    ]

pub returns-in_err-rows : goal.returns-in_err-rows
returns-in_err-rows c texts all =
    rw c.from_residual-in_err-rows.ensures (ap (option_map code_of) (c.in_err-rows.ensures.bits ∙ sym (value_rows 12 16 c.args.values.now c.index-values-0.result texts c.in_ok-width.width all (some_values c.args.values.now c.if-is_empty.ensures) (omega arith) c.index-values-0.is c.in_ok-width.ensures (omega arith) (omega arith))))

pub returns-in-Ok : goal.returns-in-Ok
returns-in-Ok c texts all =
    let ns = c.in_ok-rows.rows.items in
    let given = c.in_ok-rows.ensures.bits ∙ sym (value_rows 12 16 c.args.values.now c.index-values-0.result texts c.in_ok-width.width all (some_values c.args.values.now c.if-is_empty.ensures) (omega arith) c.index-values-0.is c.in_ok-width.ensures (omega arith) (omega arith)) in
    let code = c.in-Ok.ensures.made ∙ (ap (numbers_code c.in_ok-width.width) c.deref.ensures.0 ∙ sym (numbers_are_rows c.in_ok-width.width ns (omega (arith, c.in_ok-rows.ensures.count, some_values c.args.values.now c.if-is_empty.ensures)))) in
    ap (λ (made : Code). Some made) code ∙ ap (option_map code_of) given
