use Rattle.std.proofs.Common.{ℕ, get_or, [], ◌∷◌, true, false, refl, arith}
use Rattle.spec_examples.specs.Toggle.{toggle, thrice_code, toggle_corrector}
use Rattle.spec_examples.specs.Examples.{inverter_layout}
use Rattle.spec_examples.proofs.Corrector.{corrector_coded, corrector_separate, corrector_have, corrector_built}
use Rattle.containment.proofs.AllCycles.{corrected}
use Rattle.containment.proofs.Blamed.{steady_blame}
use Rattle.spec_examples.proofs.guards.small_guard_corrects.Goals as goal

pub returns-clause-coded : goal.returns-clause-coded
returns-clause-coded c = record { coded = corrector_coded; built = corrector_built }

pub returns-clause-steady : goal.returns-clause-steady
returns-clause-steady c = λ xs faults states outs stored zs steady source_run guard_run.
    corrected toggle_corrector toggle thrice_code 3 1 inverter_layout corrector_coded corrector_built 1 (omega arith) faults (steady_blame 1 faults steady) xs states outs stored zs source_run guard_run

pub returns-clause-run : goal.returns-clause-run
returns-clause-run c = (refl, (true ∷ true ∷ true ∷ []), record { values = λ (n : ℕ). get_or (true ∷ false ∷ false ∷ false ∷ true ∷ false ∷ false ∷ true ∷ false ∷ true ∷ false ∷ false ∷ true ∷ false ∷ true ∷ false ∷ false ∷ true ∷ false ∷ true ∷ false ∷ false ∷ false ∷ true ∷ false ∷ false ∷ false ∷ true ∷ false ∷ false ∷ []) n false; agrees = record { inputs = refl; latches = (refl, (refl, (refl, tt))); gates = (refl, (refl, (refl, (refl, (refl, (refl, (refl, (refl, (refl, (refl, (refl, (refl, (refl, (refl, (refl, (refl, (refl, (refl, (refl, (refl, (refl, (refl, (refl, (refl, (refl, (refl, (refl, tt))))))))))))))))))))))))))) }; outputs = refl; stores = refl }, (refl, (false ∷ false ∷ false ∷ []), record { values = λ (n : ℕ). get_or (true ∷ true ∷ true ∷ true ∷ true ∷ true ∷ true ∷ false ∷ true ∷ true ∷ true ∷ true ∷ false ∷ true ∷ true ∷ true ∷ true ∷ false ∷ true ∷ true ∷ true ∷ true ∷ true ∷ true ∷ true ∷ false ∷ true ∷ true ∷ true ∷ true ∷ []) n false; agrees = record { inputs = refl; latches = (refl, (refl, (refl, tt))); gates = (refl, (refl, (refl, (refl, (refl, (refl, (refl, (refl, (refl, (refl, (refl, (refl, (refl, (refl, (refl, (refl, (refl, (refl, (refl, (refl, (refl, (refl, (refl, (refl, (refl, (refl, (refl, tt))))))))))))))))))))))))))) }; outputs = refl; stores = refl }, refl))

pub returns-clause-separate : goal.returns-clause-separate
returns-clause-separate c = (corrector_separate, corrector_have)
