use Rattle.std.proofs.Common.{refl, sym, ◌∙◌}
use Rattle.campaign.proofs.CycleLemmas.{same_bits}
use Rattle.campaign.proofs.rest.rest_from.Goals as goal

pub returns-then-eq : goal.returns-then-eq
returns-then-eq c =
    record {
      meeting = c.meeting-item.result;
      stands = (c.loop-meeting.meeting-index, c.loop-meeting-test.true, sym c.meeting-item.is);
      at = c.if-meeting-cycle.true;
      same = sym c.as_slice.ensures.value ∙ same_bits c.as_slice.result.now c.args.stored.now (sym c.eq.ensures ∙ c.if-eq.true);
      is_rest = refl;
    }
