use Rattle.correction_laws.proofs.Room.{needed_cost, row_room}
use Rattle.correction_laws.proofs.needed_correctors_have_room.Goals as goal

pub returns-clause-needed : goal.returns-clause-needed
returns-clause-needed c = needed_cost

pub returns-clause-row : goal.returns-clause-row
returns-clause-row c = row_room
