use Rattle.std.proofs.Common.{◌≡◌, sym, subst, ℕ, ◌<◌, true, false, List, length, set, replicate, arith, rules}
use Rattle.std.proofs.lemmas.List.{nil_from_length}
use Rattle.net_cycles.specs.Finished.{AreAllToEnter}
use Rattle.net_cycles.specs.declared.finish.Visit.{Visit}
use Rattle.net_cycles.proofs.FinishLemmas.{Finishes, entered_top, fewer_left, finish_begins, finish_ends, left_top, no_marks, passed, read_mark, top_within}
use Rattle.net_cycles.proofs.finish.finish.Goals as goal

pub loop-visit-init : goal.loop-visit-init
loop-visit-init c =
    let none : c.in_ok-marks.marks.items ≡ replicate c.len-nodes.result false = search rules in
    subst (Finishes c.args.graph.now c.in_ok-marks.marks.items c.in_ok-stack.stack.items) (sym c.new-order.ensures.items)
    (finish_begins c.args.graph.now c.in_ok-marks.marks.items c.in_ok-stack.stack.items (omega (arith, c.in_ok-marks.ensures.len, c.in_ok-marks.marks.ok.0, c.len-nodes.ensures)) (no_marks c.in_ok-marks.marks.items c.len-nodes.result none)
    (subst (λ (n : ℕ). AreAllToEnter n c.in_ok-stack.stack.items) c.len-nodes.ensures c.in_ok-stack.ensures))

pub loop-visit-preserved-then-visit : goal.loop-visit-preserved-then-visit
loop-visit-preserved-then-visit c =
    subst (Finishes c.args.graph.now c.loop-visit.marks.items c.pop.new.self.items) (sym c.in_ok-push.ensures.items)
    (left_top c.args.graph.now c.loop-visit.marks.items c.loop-visit.stack.items c.pop.new.self.items c.in-Some.visit c.loop-visit.order.items c.in-Some.ensures.items c.loop-visit.invariant c.if-visit.true)

pub index-requires : goal.index-requires
index-requires c =
    omega (arith, top_within c.args.graph.now c.loop-visit.marks.items c.loop-visit.stack.items c.pop.new.self.items c.in-Some.visit c.loop-visit.order.items c.in-Some.ensures.items c.loop-visit.invariant, c.loop-visit.invariant.size, c.loop-visit.marks.ok.0)

pub loop-visit-preserved-then-index : goal.loop-visit-preserved-then-index
loop-visit-preserved-then-index c =
    passed c.args.graph.now c.loop-visit.marks.items c.loop-visit.stack.items c.pop.new.self.items c.in-Some.visit c.loop-visit.order.items c.in-Some.ensures.items c.loop-visit.invariant c.if-visit.false
    (read_mark c.loop-visit.marks.items c.in-Some.visit.node c.index.result.now true (omega (arith, c.loop-visit.invariant.size, top_within c.args.graph.now c.loop-visit.marks.items c.loop-visit.stack.items c.pop.new.self.items c.in-Some.visit c.loop-visit.order.items c.in-Some.ensures.items c.loop-visit.invariant)) c.index.ensures c.if-index.true)

pub index_mut-requires : goal.index_mut-requires
index_mut-requires c =
    omega (arith, top_within c.args.graph.now c.loop-visit.marks.items c.loop-visit.stack.items c.pop.new.self.items c.in-Some.visit c.loop-visit.order.items c.in-Some.ensures.items c.loop-visit.invariant, c.loop-visit.invariant.size, c.loop-visit.marks.ok.0)

pub open-requires : goal.open-requires
open-requires c =
    top_within c.args.graph.now c.loop-visit.marks.items c.loop-visit.stack.items c.pop.new.self.items c.in-Some.visit c.loop-visit.order.items c.in-Some.ensures.items c.loop-visit.invariant

pub loop-visit-smaller : goal.loop-visit-smaller
loop-visit-smaller c =
    let inside : c.in-Some.visit.node < length c.loop-visit.marks.items
    = omega (arith, c.loop-visit.invariant.size, top_within c.args.graph.now c.loop-visit.marks.items c.loop-visit.stack.items c.pop.new.self.items c.in-Some.visit c.loop-visit.order.items c.in-Some.ensures.items c.loop-visit.invariant) in
    fewer_left c.loop-visit.marks.items c.in-Some.visit.node c.loop-visit.stack.items c.open.new.stack.items inside
    (read_mark c.loop-visit.marks.items c.in-Some.visit.node c.index.result.now false inside c.index.ensures c.if-index.false) c.in_ok-open.ensures.room

pub loop-visit-preserved : goal.loop-visit-preserved
loop-visit-preserved c =
    let inside : c.in-Some.visit.node < length c.loop-visit.marks.items
    = omega (arith, c.loop-visit.invariant.size, top_within c.args.graph.now c.loop-visit.marks.items c.loop-visit.stack.items c.pop.new.self.items c.in-Some.visit c.loop-visit.order.items c.in-Some.ensures.items c.loop-visit.invariant) in
    subst (λ (l : List Visit). Finishes c.args.graph.now (set c.loop-visit.marks.items c.in-Some.visit.node true) l c.loop-visit.order.items) (sym c.in_ok-open.ensures.opened)
    (entered_top c.args.graph.now c.loop-visit.marks.items c.loop-visit.stack.items c.pop.new.self.items c.in-Some.visit c.loop-visit.order.items c.in-Some.ensures.items c.loop-visit.invariant c.requires c.if-visit.false
    (read_mark c.loop-visit.marks.items c.in-Some.visit.node c.index.result.now false inside c.index.ensures c.if-index.false))

pub returns : goal.returns
returns c =
    finish_ends c.args.graph.now c.loop-visit.marks.items c.loop-visit.stack.items c.loop-visit.order.items (nil_from_length c.loop-visit.stack.items (omega (arith, c.in_default.ensures.cases.0, c.loop-visit.stack.ok.0))) c.loop-visit.invariant
