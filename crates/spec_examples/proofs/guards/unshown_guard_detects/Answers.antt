use Rattle.std.proofs.Common.{lit<}
use Rattle.spec_examples.specs.Examples.{parity_code}
use Rattle.spec_examples.specs.Unshown.{unshown, unshown_layout, unshown_guard}
use Rattle.spec_examples.proofs.Unshown.{unshown_coded, unshown_separate, unshown_have, unshown_built, unshown_tells}
use Rattle.containment.proofs.AllCycles.{detected}
use Rattle.containment.proofs.Blamed.{steady_blame}
use Rattle.spec_examples.proofs.guards.unshown_guard_detects.Goals as goal

pub returns-clause-telling : goal.returns-clause-telling
returns-clause-telling c = record { coded = unshown_coded; built = unshown_built; tells = unshown_tells }

pub returns-clause-separate : goal.returns-clause-separate
returns-clause-separate c = (unshown_separate, unshown_have)

pub returns-clause-steady : goal.returns-clause-steady
returns-clause-steady c = λ xs faults states outs stored zs steady source_run guard_run.
    detected unshown_guard unshown parity_code 2 1 unshown_layout unshown_coded unshown_built unshown_tells (lit< tt) 1 (lit< tt) (lit< tt) faults (steady_blame 1 faults steady) xs states outs stored zs source_run guard_run
