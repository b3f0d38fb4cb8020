use Rattle.std.proofs.Common.{◌≡◌, subst, ℕ, ◌+◌, List, Bool, length, arith}
use Rattle.std.proofs.lemmas.Result.{IfOk-weaker}
use Rattle.net_graph.specs.Chains.{AreMarked, Chain, IsNext}
use Rattle.net_graph.proofs.ChainLemmas.{none_yet, one_more, past_all}
use Rattle.net_graph.proofs.chains.reach_past.Goals as goal

next_of : (graph : List (List ℕ)) (marks seen next : List Bool) (i start : ℕ) → seen ≡ marks → AreMarked (length graph) marks (Chain graph i start) → AreMarked (length graph) next (IsNext graph seen) → AreMarked (length graph) next (Chain graph (i + 1) start)
next_of graph marks seen next i start same so_far n = one_more graph marks next i start so_far (subst (λ (l : List Bool). AreMarked (length graph) next (IsNext graph l)) same n)

pub loop-step-init : goal.loop-step-init
loop-step-init c =
    none_yet c.args.graph.now c.in_ok-marks.marks.items c.args.start (subst (λ (n : ℕ). AreMarked n c.in_ok-marks.marks.items (λ k. k ≡ c.args.start)) c.len.ensures c.in_ok-marks.ensures)

pub loop-step-preserved : goal.loop-step-preserved
loop-step-preserved c =
    next_of c.args.graph.now c.loop-step.marks.items c.deref.result.now c.in_ok-marks-2.marks.items c.loop-step.step c.args.start c.deref.ensures.value c.loop-step.invariant c.in_ok-marks-2.ensures

pub returns : goal.returns
returns c =
    let n : c.loop-step.step ≡ c.args.steps = omega arith in
    let past = next_of c.args.graph.now c.loop-step.marks.items c.deref-2.result.now c.in_ok-past.past.items c.loop-step.step c.args.start c.deref-2.ensures.value c.loop-step.invariant c.in_ok-past.ensures in
    let at = subst (λ (i : ℕ). AreMarked (length c.args.graph.now) c.in_ok-past.past.items (Chain c.args.graph.now (i + 1) c.args.start)) n past in
    IfOk-weaker c.reach_all.result _ _ (λ all. past_all c.args.graph.now c.in_ok-past.past.items all.items c.args.steps c.args.start at) c.reach_all.ensures
