use Rattle.std.proofs.Common.{ℕ, List, sym, subst, ◌∙◌, get_or, take}
use Rattle.std.proofs.lemmas.List.{take_more}
use Rattle.plain_size.specs.Walks.{Walks}
use Rattle.plain_size.proofs.WalkLemmas.{walks_more}
use Rattle.plain_size.proofs.walk.Walk.meet_all.Goals as goal

pub loop-end-preserved : goal.loop-end-preserved
loop-end-preserved c =
    let ends = c.args.ends.now in
    let i = c.loop-end.end-index in
    record {
      size = c.meet.ensures.size ∙ c.loop-end.invariant.size;
      walks = subst (λ (l : List ℕ). Walks c.args.costs.now l c.args.self.now c.meet.new.self) (sym (take_more ends i 0 c.loop-end-test.true))
          (walks_more c.args.costs.now (take i ends) (get_or ends i 0) c.args.self.now c.loop-end.self c.meet.new.self c.loop-end.invariant.walks c.in_ok-meet.ensures.walks);
    }
