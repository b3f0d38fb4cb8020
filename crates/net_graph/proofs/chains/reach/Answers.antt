use Rattle.std.proofs.Common.{◌≡◌, subst, ℕ}
use Rattle.std.proofs.lemmas.Result.{IfOk-weaker}
use Rattle.net_graph.specs.Chains.{AreMarked}
use Rattle.net_graph.proofs.ChainLemmas.{from_one}
use Rattle.net_graph.proofs.chains.reach.Goals as goal

pub returns : goal.returns
returns c =
    let one = subst (λ (n : ℕ). AreMarked n c.in_ok-marks.marks.items (λ k. k ≡ c.args.start)) c.len.ensures c.in_ok-marks.ensures in
    IfOk-weaker c.reach_all.result _ _ (λ all. from_one c.args.graph.now c.in_ok-marks.marks.items all.items c.args.start one) c.reach_all.ensures
