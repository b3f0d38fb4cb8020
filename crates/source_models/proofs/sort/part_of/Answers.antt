use Rattle.std.proofs.Common.{◌≡◌, refl, subst, ℕ, length, get_or, false, arith}
use Rattle.source_models.specs.Cycles.{IsPart}
use Rattle.source_models.proofs.CycleLemmas.{part_begins, part_more}
use Rattle.source_models.proofs.sort.part_of.Goals as goal

pub loop-node-init : goal.loop-node-init
loop-node-init c = part_begins c.args.graph.now c.args.marks.now c.new-part.result c.new-part.ensures

pub loop-node-preserved : goal.loop-node-preserved
loop-node-preserved c =
    part_more c.args.graph.now c.args.marks.now c.loop-node.node c.loop-node.part c.push_row.new.self c.ends_if.result.now (get_or c.args.marks.now c.loop-node.node false) c.in_ok-push_row.ensures.ok c.ends_if.ensures
    refl c.loop-node.invariant

pub returns : goal.returns
returns c =
    let all : c.loop-node.node ≡ length c.args.graph.now = omega arith in
    subst (λ (n : ℕ). IsPart c.args.graph.now c.args.marks.now n c.loop-node.part) all c.loop-node.invariant
