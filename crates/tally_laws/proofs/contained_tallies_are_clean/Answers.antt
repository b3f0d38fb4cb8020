use Rattle.tally_laws.proofs.Counts.{clean}
use Rattle.tally_laws.proofs.contained_tallies_are_clean.Goals as goal

pub returns : goal.returns
returns c = λ g source s m gm k few l xs states ys cycle tally pair some contains run sorted. clean s.mode g source s m gm k few l xs states ys cycle tally pair some contains run sorted
