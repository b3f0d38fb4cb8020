use Rattle.std.proofs.Common.{◌∙◌, sym, ap, subst, ◌+◌, false, Vec, ℕ, map, get_or, arith}
use Rattle.std.specs.declared.alloc.Global.{Global}
use Rattle.std.proofs.lemmas.List.{map_push}
use Rattle.source_nets.specs.Ports.{source_file, source_library}
use Rattle.source_loops.proofs.FileLemmas.{OrdersSoFar, so_far_more, none_has_loop, first_loop, true_unless}
use Rattle.source_loops.proofs.settle.settle_models.Goals as goal

pub loop-place-preserved : goal.loop-place-preserved
loop-place-preserved c =
    let F = source_file c.args.source.now in
    let L = source_library c.args.source.now in
    let used = c.args.used.now in
    let place = c.loop-place.place in
    let items : Vec ℕ Global → _ = λ order. order.items in
    let before = map items c.loop-place.orders.items in
    let more = so_far_more F L used c.requires.used c.requires.drivers place before c.in-Order.order.items (omega (arith, c.loop-place-test.true, c.requires.used.each))
    (λ m at u. (rw c.in-Order.is at c.in_ok-order.ensures.used) u m at) (rw c.in-Order.is at c.in_ok-order.ensures.unused) c.loop-place.invariant in
    subst (OrdersSoFar F L used (place + 1)) (sym (ap (map items) c.in_ok-push-in-Order.ensures.items ∙ map_push items c.loop-place.orders.items c.in-Order.order)) more

pub returns-clause-no_loop : goal.returns-clause-no_loop
returns-clause-no_loop c =
    none_has_loop (source_file c.args.source.now) (source_library c.args.source.now) c.args.used.now c.requires.used c.requires.drivers c.loop-place.place
    (map (λ (order : Vec ℕ Global). order.items) c.loop-place.orders.items) c.loop-place-test.false c.loop-place.invariant

pub returns-in-Loop-clause-told : goal.returns-in-Loop-clause-told
returns-in-Loop-clause-told c =
    let used = c.args.used.now in
    let place = c.loop-place.place in
    let marked = true_unless (get_or used place false) (rw c.in-Loop.is at c.in_ok-order.ensures.unused) in
    first_loop (source_file c.args.source.now) (source_library c.args.source.now) used c.requires.used c.requires.drivers place (map (λ (order : Vec ℕ Global). order.items) c.loop-place.orders.items) c.in-Loop.nets c.loop-place-test.true marked
    (λ m at. (rw c.in-Loop.is at c.in_ok-order.ensures.used) marked m at) c.loop-place.invariant
