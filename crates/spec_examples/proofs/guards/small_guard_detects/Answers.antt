use Rattle.std.proofs.Common.{ℕ, get_or, [], ◌∷◌, true, false, refl, arith}
use Rattle.guard_spec.specs.Codes.{detect}
use Rattle.spec_examples.specs.Toggle.{toggle, toggle_guard}
use Rattle.spec_examples.specs.Examples.{parity_code, inverter_layout}
use Rattle.spec_examples.proofs.Toggle.{toggle_coded, toggle_separate, toggle_have, toggle_built, toggle_tells}
use Rattle.containment.proofs.AllCycles.{quiet_run, codewords_are_not_bad, detected}
use Rattle.containment.proofs.Blamed.{steady_blame}
use Rattle.guard_spec.specs.Rails.{SomeNoCodeword}
use Rattle.spec_examples.proofs.InverterGuard.{toggle_is_named}
use Rattle.spec_examples.proofs.guards.small_guard_detects.Goals as goal

pub returns-clause-telling : goal.returns-clause-telling
returns-clause-telling c = record { coded = toggle_coded; built = toggle_built; tells = toggle_tells }

pub returns-clause-faithful : goal.returns-clause-faithful
returns-clause-faithful c = λ xs states outs stored zs source_run guard_run.
    quiet_run toggle_guard toggle parity_code 2 detect 1 inverter_layout toggle_coded toggle_built (SomeNoCodeword toggle_guard parity_code inverter_layout 1) toggle_tells (codewords_are_not_bad toggle_guard parity_code inverter_layout 1) xs states outs stored zs source_run guard_run

pub returns-clause-steady : goal.returns-clause-steady
returns-clause-steady c = λ xs faults states outs stored zs steady source_run guard_run.
    detected toggle_guard toggle parity_code 2 1 inverter_layout toggle_coded toggle_built toggle_tells (omega arith) 1 (omega arith) (omega arith) faults (steady_blame 1 faults steady) xs states outs stored zs source_run guard_run

pub returns-clause-run : goal.returns-clause-run
returns-clause-run c = (
  refl,
  false ∷ true ∷ [],
  record { values = (λ (n : ℕ). get_or (false ∷ false ∷ false ∷ true ∷ false ∷ false ∷ false ∷ false ∷ false ∷ false ∷ false ∷ false ∷ []) n false); agrees = record { inputs = refl; latches = (refl, (refl, tt)); gates = (refl, (refl, (refl, (refl, (refl, (refl, (refl, (refl, (refl, (refl, tt)))))))))) }; outputs = refl; stores = refl },
  (refl, true ∷ true ∷ [], record { values = (λ (n : ℕ). get_or (false ∷ true ∷ true ∷ true ∷ false ∷ false ∷ true ∷ false ∷ true ∷ true ∷ false ∷ true ∷ []) n false); agrees = record { inputs = refl; latches = (refl, (refl, tt)); gates = (refl, (refl, (refl, (refl, (refl, (refl, (refl, (refl, (refl, (refl, tt)))))))))) }; outputs = refl; stores = refl }, refl),
)

pub returns-clause-named : goal.returns-clause-named
returns-clause-named c = (toggle_is_named, refl)

pub returns-clause-separate : goal.returns-clause-separate
returns-clause-separate c = (toggle_separate, toggle_have)
