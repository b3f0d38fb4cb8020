use Rattle.source_laws.proofs.Lowered.{machine_of}
use Rattle.source_laws.proofs.lowered_machines_are_of_their_source.Goals as goal

pub returns : goal.returns
returns c = machine_of
