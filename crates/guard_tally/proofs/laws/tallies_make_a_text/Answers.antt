use Rattle.guard_tally.proofs.TallyText.{campaign_text}
use Rattle.guard_tally.proofs.laws.tallies_make_a_text.Goals as goal

pub returns : goal.returns
returns c = campaign_text
