use Rattle.std.proofs.Common.{◌<◌, ◌*◌, arith}
use Rattle.containment.proofs.AllCycles.{detected}
use Rattle.containment.proofs.Blamed.{steady_blame, within_is_steady, moving_blame}
use Rattle.containment.proofs.guards_detect.Goals as goal

pub returns-clause-within : goal.returns-clause-within
returns-clause-within c = λ g source code d t l guard wide rails xs faults states outs stored zs within source_run guard_run.
    detected g source code d t l guard.coded guard.built guard.tells wide t wide rails faults (steady_blame t faults (within_is_steady t faults within)) xs states outs stored zs source_run guard_run

pub returns-clause-steady : goal.returns-clause-steady
returns-clause-steady c = λ g source code d t l guard wide rails xs faults states outs stored zs steady source_run guard_run.
    detected g source code d t l guard.coded guard.built guard.tells wide t wide rails faults (steady_blame t faults steady) xs states outs stored zs source_run guard_run

pub returns-clause-moving : goal.returns-clause-moving
returns-clause-moving c = λ g source code d t l guard wide rails xs faults states outs stored zs moving source_run guard_run.
    let fits : t < d = omega arith in
    detected g source code d (2 * t) l guard.coded guard.built guard.tells wide t fits rails faults (moving_blame t faults moving) xs states outs stored zs source_run guard_run
