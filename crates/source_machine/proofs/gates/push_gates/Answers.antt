use Rattle.std.proofs.Common.{◌≡◌, ◌<◌, sym, ap, ◌∙◌, List, ℕ, length, map, Some, slice_get, arith}
use Rattle.std.proofs.lemmas.List.{length-map}
use Rattle.source_nets.specs.Ports.{source_file}
use Rattle.model_lowering.proofs.Places.{mapped_place}
use Rattle.source_machine.proofs.MainLoop.{first_is_main, main_is_first, loop_begins, place_within, call_can, loop_goes_on, loop_ends}
use Rattle.source_machine.proofs.gates.push_gates.Goals as goal

pub lower_statement-requires-clause-statement : goal.lower_statement-requires-clause-statement
lower_statement-requires-clause-statement c m at =
    let rows = c.args.checked.now.orders.items in
    let order = c.deref-i-items.result.now in
    let within : 0 < length rows = omega (arith, length-map rows (λ row. row.items), c.requires.ready.found.orders.size, c.requires.ready.is_file.some_model) in
    let there : slice_get (map (λ row. row.items) rows) 0 ≡ Some order
    = mapped_place (λ row. row.items) rows 0 c.index-order.result.now within c.index-order.ensures ∙ ap (λ (is : List ℕ). Some is) (sym c.deref-i-items.ensures.value) in
    let main = main_is_first (source_file c.args.source.now) m at in
    place_within c.args.source.now c.args.checked.now c.requires.ready m main order there c.loop-i.i-index c.loop-i.net c.loop-i.table c.loop-i-test.true (c.loop-i.invariant m main)

pub lower_statement-requires-clause-can : goal.lower_statement-requires-clause-can
lower_statement-requires-clause-can c m s at is =
    let rows = c.args.checked.now.orders.items in
    let order = c.deref-i-items.result.now in
    let within : 0 < length rows = omega (arith, length-map rows (λ row. row.items), c.requires.ready.found.orders.size, c.requires.ready.is_file.some_model) in
    let there : slice_get (map (λ row. row.items) rows) 0 ≡ Some order
    = mapped_place (λ row. row.items) rows 0 c.index-order.result.now within c.index-order.ensures ∙ ap (λ (is : List ℕ). Some is) (sym c.deref-i-items.ensures.value) in
    let main = main_is_first (source_file c.args.source.now) m at in
    call_can c.args.source.now c.args.checked.now c.requires.ready m main order there c.loop-i.i-index c.loop-i.net c.loop-i.table c.loop-i-test.true (c.loop-i.invariant m main) s is

pub loop-i-init : goal.loop-i-init
loop-i-init c m main =
    let rows = c.args.checked.now.orders.items in
    let order = c.deref-i-items.result.now in
    let within : 0 < length rows = omega (arith, length-map rows (λ row. row.items), c.requires.ready.found.orders.size, c.requires.ready.is_file.some_model) in
    let there : slice_get (map (λ row. row.items) rows) 0 ≡ Some order
    = mapped_place (λ row. row.items) rows 0 c.index-order.result.now within c.index-order.ensures ∙ ap (λ (is : List ℕ). Some is) (sym c.deref-i-items.ensures.value) in
    let (inputs, has) = c.requires.leaves m main in
    loop_begins c.args.source.now c.args.checked.now c.requires.ready m main order there inputs c.args.net.now c.args.table.now c.requires.none has

pub loop-i-preserved : goal.loop-i-preserved
loop-i-preserved c m main =
    let rows = c.args.checked.now.orders.items in
    let order = c.deref-i-items.result.now in
    let within : 0 < length rows = omega (arith, length-map rows (λ row. row.items), c.requires.ready.found.orders.size, c.requires.ready.is_file.some_model) in
    let there : slice_get (map (λ row. row.items) rows) 0 ≡ Some order
    = mapped_place (λ row. row.items) rows 0 c.index-order.result.now within c.index-order.ensures ∙ ap (λ (is : List ℕ). Some is) (sym c.deref-i-items.ensures.value) in
    loop_goes_on c.args.source.now c.args.checked.now c.requires.ready m main order there c.loop-i.i-index c.loop-i.net c.loop-i.table c.loop-i-test.true (c.loop-i.invariant m main)
    c.lower_statement.new.net c.lower_statement.new.table (λ s is. c.in_ok-lower_statement.ensures m s (first_is_main (source_file c.args.source.now) m main) is)

pub returns : goal.returns
returns c m main =
    let rows = c.args.checked.now.orders.items in
    let order = c.deref-i-items.result.now in
    let within : 0 < length rows = omega (arith, length-map rows (λ row. row.items), c.requires.ready.found.orders.size, c.requires.ready.is_file.some_model) in
    let there : slice_get (map (λ row. row.items) rows) 0 ≡ Some order
    = mapped_place (λ row. row.items) rows 0 c.index-order.result.now within c.index-order.ensures ∙ ap (λ (is : List ℕ). Some is) (sym c.deref-i-items.ensures.value) in
    loop_ends c.args.source.now c.args.checked.now c.requires.ready m main order there c.loop-i.i-index c.loop-i.net c.loop-i.table c.loop-i-test.false (c.loop-i.invariant m main)
