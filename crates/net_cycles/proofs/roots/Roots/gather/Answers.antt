use Rattle.std.proofs.Common.{◌∙◌, sym, ap, subst, ℕ, ◌<◌, true, false, List, ◌++◌, length, set, arith}
use Rattle.std.proofs.lemmas.List.{nil_from_length}
use Rattle.net_cycles.proofs.FinishLemmas.{read_mark}
use Rattle.net_cycles.proofs.RootLemmas.{Gathering, gather_ends, gather_marks, gather_passes, node_within}
use Rattle.net_cycles.proofs.roots.Roots.gather.Goals as goal

pub index-requires : goal.index-requires
index-requires c =
    omega (arith, node_within c.args.back.now c.args.root c.args.self.now.marks.items c.args.self.now.roots.items c.loop-node.self.marks.items c.loop-node.self.roots.items c.loop-node.waiting.items c.pop.new.self.items c.in-Some.node c.in-Some.ensures.items c.loop-node.invariant c.requires.graph c.requires.root, c.loop-node.invariant.size_marks, c.loop-node.self.marks.ok.0)

pub loop-node-preserved-then-index : goal.loop-node-preserved-then-index
loop-node-preserved-then-index c =
    let inside : c.in-Some.node < length c.loop-node.self.marks.items
    = omega (arith, c.loop-node.invariant.size_marks, node_within c.args.back.now c.args.root c.args.self.now.marks.items c.args.self.now.roots.items c.loop-node.self.marks.items c.loop-node.self.roots.items c.loop-node.waiting.items c.pop.new.self.items c.in-Some.node c.in-Some.ensures.items c.loop-node.invariant c.requires.graph c.requires.root) in
    gather_passes c.args.back.now c.args.root c.args.self.now.marks.items c.args.self.now.roots.items c.loop-node.self.marks.items c.loop-node.self.roots.items c.loop-node.waiting.items c.pop.new.self.items c.in-Some.node c.in-Some.ensures.items c.loop-node.invariant
    (read_mark c.loop-node.self.marks.items c.in-Some.node c.index.result.now true inside c.index.ensures c.if-index.true)

pub index_mut-requires : goal.index_mut-requires
index_mut-requires c =
    omega (arith, node_within c.args.back.now c.args.root c.args.self.now.marks.items c.args.self.now.roots.items c.loop-node.self.marks.items c.loop-node.self.roots.items c.loop-node.waiting.items c.pop.new.self.items c.in-Some.node c.in-Some.ensures.items c.loop-node.invariant c.requires.graph c.requires.root, c.loop-node.invariant.size_marks, c.loop-node.self.marks.ok.0)

pub index_mut-requires-in-Some : goal.index_mut-requires-in-Some
index_mut-requires-in-Some c =
    omega (arith, node_within c.args.back.now c.args.root c.args.self.now.marks.items c.args.self.now.roots.items c.loop-node.self.marks.items c.loop-node.self.roots.items c.loop-node.waiting.items c.pop.new.self.items c.in-Some.node c.in-Some.ensures.items c.loop-node.invariant c.requires.graph c.requires.root, c.loop-node.invariant.size_roots, c.loop-node.self.roots.ok.0)

pub row-requires : goal.row-requires
row-requires c =
    node_within c.args.back.now c.args.root c.args.self.now.marks.items c.args.self.now.roots.items c.loop-node.self.marks.items c.loop-node.self.roots.items c.loop-node.waiting.items c.pop.new.self.items c.in-Some.node c.in-Some.ensures.items c.loop-node.invariant c.requires.graph c.requires.root

pub loop-node-preserved : goal.loop-node-preserved
loop-node-preserved c =
    let within : c.in-Some.node < length c.args.back.now
    = node_within c.args.back.now c.args.root c.args.self.now.marks.items c.args.self.now.roots.items c.loop-node.self.marks.items c.loop-node.self.roots.items c.loop-node.waiting.items c.pop.new.self.items c.in-Some.node c.in-Some.ensures.items c.loop-node.invariant c.requires.graph c.requires.root in
    let inside : c.in-Some.node < length c.loop-node.self.marks.items = omega (arith, c.loop-node.invariant.size_marks, within) in
    subst (Gathering c.args.back.now c.args.root c.args.self.now.marks.items c.args.self.now.roots.items (set c.loop-node.self.marks.items c.in-Some.node true) (set c.loop-node.self.roots.items c.in-Some.node c.args.root))
    (sym (c.in_ok-extend_from_slice.ensures.items ∙ ap (λ (l : List ℕ). c.pop.new.self.items ++ l) c.row.ensures))
    (gather_marks c.args.back.now c.args.root c.args.self.now.marks.items c.args.self.now.roots.items c.loop-node.self.marks.items c.loop-node.self.roots.items c.loop-node.waiting.items c.pop.new.self.items c.in-Some.node c.in-Some.ensures.items c.loop-node.invariant within
    (read_mark c.loop-node.self.marks.items c.in-Some.node c.index.result.now false inside c.index.ensures c.if-index.false))

pub returns : goal.returns
returns c =
    gather_ends c.args.back.now c.args.root c.args.self.now.marks.items c.args.self.now.roots.items c.loop-node.self.marks.items c.loop-node.self.roots.items c.loop-node.waiting.items
    (nil_from_length c.loop-node.waiting.items (omega (arith, c.in_default.ensures.cases.0, c.loop-node.waiting.ok.0))) c.loop-node.invariant
