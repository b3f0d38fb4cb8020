use Rattle.std.proofs.Common.{subst, sym, arith}
use Rattle.std.specs.Prelude.{All}
use Rattle.campaign.specs.Rests.{IsMeeting}
use Rattle.campaign.proofs.rest.meetings_behind.Goals as goal

pub returns : goal.returns
returns c =
    let keeps = c.in_ok-keep_rest.ensures in
    record {
      kept = λ g simulates. keeps.kept g simulates (subst (All (IsMeeting c.args.task.now simulates.ordered.model)) (sym c.new-kept.ensures.items) (λ k d within. absurd (omega (arith, within))));
      netlist = keeps.netlist;
      ready = keeps.ready;
    }
