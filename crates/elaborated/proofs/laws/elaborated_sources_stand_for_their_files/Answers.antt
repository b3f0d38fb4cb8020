use Rattle.elaborated.proofs.FlatIsFlat.{stands-for, sound-alike}
use Rattle.elaborated.proofs.laws.elaborated_sources_stand_for_their_files.Goals as goal

pub returns-clause-stands : goal.returns-clause-stands
returns-clause-stands c = stands-for

pub returns-clause-sound : goal.returns-clause-sound
returns-clause-sound c = sound-alike
