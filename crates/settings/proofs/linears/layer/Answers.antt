use Rattle.std.proofs.Common.{◌≡◌, ◌<◌, ◌≤◌, false, List, [], ◌∷◌, length, map, inl, inr, arith, lit≤}
use Rattle.std.specs.Prelude.{◌==◌}
use Rattle.std.proofs.lemmas.Bool.Decides.{nat_tests}
use Rattle.std.proofs.lemmas.List.{length-map}
use Rattle.toml.specs.View.{view}
use Rattle.toml.specs.declared.value.Value.{Value}
use Rattle.settings.proofs.Layers.{layer_none, layer_is, layer_made, layer_shape, layer_refused}
use Rattle.settings.proofs.Texts.{no_rows, many_rows, value_rows}
use Rattle.settings.proofs.linears.layer.Goals as goal

some_values : (vs : List Value) → false ≡ (length vs == 0) → 1 ≤ length vs
some_values [] h = cc
some_values (v ∷ vs) h = omega arith

pub returns-then-is_empty : goal.returns-then-is_empty
returns-then-is_empty c =
    let ds = map view c.args.values.now in
    let count = length-map c.args.values.now view in
    elim c.then-is_empty.either [
      | inl empty ↦
          let none : length ds < 1 = grind (arith, nat_tests, c.is_empty.ensures, empty, count) in
          layer_none ds (λ texts all. no_rows 128 128 ds texts all none)
      | inr many ↦
          let past : 128 < length ds = omega (arith, many.1, count) in
          layer_none ds (λ texts all. many_rows 128 128 ds texts all (lit≤ tt) past)
    ]

pub invariant_of-result : goal.invariant_of-result
invariant_of-result c =
    let ds = map view c.args.values.now in
    let count = length-map c.args.values.now view in
    let some : 1 ≤ length c.args.values.now = some_values c.args.values.now c.if-is_empty.ensures in
    layer_shape c.in-Some.width ds c.in-Some-2.rows.items (omega arith) (omega arith) (omega arith) (omega arith) (rw c.in-Some-2.is at c.in_ok-rows.ensures)

pub returns-in-Some-2 : goal.returns-in-Some-2
returns-in-Some-2 c =
    let vs = c.args.values.now in
    let count = length-map vs view in
    let some : 1 ≤ length vs = some_values vs c.if-is_empty.ensures in
    layer_made c.in-Some.width (map view vs)
    (layer_is (map view vs) c.in-Some.width (λ texts all. value_rows 128 128 vs c.index-values-0.result texts c.in-Some.width all some (omega arith) c.index-values-0.is c.in-Some.ensures (omega arith) (omega arith)))
    c.in-Some-2.rows.items (omega arith) (rw c.in-Some-2.is at c.in_ok-rows.ensures)

pub returns-in-None-2 : goal.returns-in-None-2
returns-in-None-2 c =
    let vs = c.args.values.now in
    let some : 1 ≤ length vs = some_values vs c.if-is_empty.ensures in
    layer_refused c.in-Some.width (map view vs)
    (layer_is (map view vs) c.in-Some.width (λ texts all. value_rows 128 128 vs c.index-values-0.result texts c.in-Some.width all some (omega arith) c.index-values-0.is c.in-Some.ensures (omega arith) (omega arith)))
    (rw c.in-None-2.is at c.in_ok-rows.ensures)
