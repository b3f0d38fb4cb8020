use Rattle.source_laws.proofs.OneOutcome.{one_outcome, one_source_run}
use Rattle.source_laws.proofs.sources_step_once.Goals as goal

pub returns : goal.returns
returns c = record { cycle = one_outcome; run = one_source_run }
