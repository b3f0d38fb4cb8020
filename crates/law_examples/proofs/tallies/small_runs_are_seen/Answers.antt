use Rattle.std.proofs.Common.{refl}
use Rattle.law_examples.proofs.tallies.small_runs_are_seen.Goals as goal

pub returns : goal.returns
returns c = record { alarmed = refl; wrong = refl; decoded = refl }
