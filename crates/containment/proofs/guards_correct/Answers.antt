use Rattle.std.proofs.Common.{◌*◌}
use Rattle.containment.proofs.AllCycles.{corrected}
use Rattle.containment.proofs.Blamed.{steady_blame, within_is_steady, moving_blame}
use Rattle.containment.proofs.guards_correct.Goals as goal

pub returns-clause-within : goal.returns-clause-within
returns-clause-within c = λ g source code d t l guard wide xs faults states outs stored zs within source_run guard_run.
    corrected g source code d t l guard.coded guard.built t wide faults (steady_blame t faults (within_is_steady t faults within)) xs states outs stored zs source_run guard_run

pub returns-clause-steady : goal.returns-clause-steady
returns-clause-steady c = λ g source code d t l guard wide xs faults states outs stored zs steady source_run guard_run.
    corrected g source code d t l guard.coded guard.built t wide faults (steady_blame t faults steady) xs states outs stored zs source_run guard_run

pub returns-clause-moving : goal.returns-clause-moving
returns-clause-moving c = λ g source code d t l guard wide xs faults states outs stored zs moving source_run guard_run.
    corrected g source code d (2 * t) l guard.coded guard.built t wide faults (moving_blame t faults moving) xs states outs stored zs source_run guard_run
