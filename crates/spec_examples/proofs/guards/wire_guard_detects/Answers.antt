use Rattle.std.proofs.Common.{lit<}
use Rattle.spec_examples.specs.Examples.{parity_code}
use Rattle.spec_examples.specs.Wire.{wire, wire_layout, wire_guard}
use Rattle.spec_examples.proofs.Wire.{wire_coded, wire_separate, wire_have, wire_built, wire_tells}
use Rattle.containment.proofs.AllCycles.{detected}
use Rattle.containment.proofs.Blamed.{steady_blame}
use Rattle.spec_examples.proofs.guards.wire_guard_detects.Goals as goal

pub returns-clause-telling : goal.returns-clause-telling
returns-clause-telling c = record { coded = wire_coded; built = wire_built; tells = wire_tells }

pub returns-clause-separate : goal.returns-clause-separate
returns-clause-separate c = (wire_separate, wire_have)

pub returns-clause-steady : goal.returns-clause-steady
returns-clause-steady c = λ xs faults states outs stored zs steady source_run guard_run.
    detected wire_guard wire parity_code 2 1 wire_layout wire_coded wire_built wire_tells (lit< tt) 1 (lit< tt) (lit< tt) faults (steady_blame 1 faults steady) xs states outs stored zs source_run guard_run
