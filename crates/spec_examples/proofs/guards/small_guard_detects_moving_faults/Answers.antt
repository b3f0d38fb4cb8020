use Rattle.std.proofs.Common.{ℕ, get_or, [], ◌∷◌, true, false, refl, arith}
use Rattle.spec_examples.specs.Examples.{inverter_layout}
use Rattle.spec_examples.specs.Toggle.{toggle, thrice_code, thrice_guard}
use Rattle.spec_examples.proofs.Thrice.{thrice_telling, thrice_separate, thrice_have}
use Rattle.containment.proofs.AllCycles.{detected}
use Rattle.containment.proofs.Blamed.{moving_blame}
use Rattle.spec_examples.proofs.guards.small_guard_detects_moving_faults.Goals as goal

pub returns-clause-telling : goal.returns-clause-telling
returns-clause-telling c = thrice_telling

pub returns-clause-separate : goal.returns-clause-separate
returns-clause-separate c = (thrice_separate, thrice_have)

pub returns-clause-moving : goal.returns-clause-moving
returns-clause-moving c = λ xs faults states outs stored zs moving source_run guard_run.
    detected thrice_guard toggle thrice_code 3 2 inverter_layout thrice_telling.coded thrice_telling.built thrice_telling.tells (omega arith) 1 (omega arith) (omega arith) faults (moving_blame 1 faults moving) xs states outs stored zs source_run guard_run

pub returns-clause-run : goal.returns-clause-run
returns-clause-run c = (refl, (false ∷ true ∷ true ∷ []), record { values = λ (n : ℕ). get_or (false ∷ false ∷ false ∷ false ∷ true ∷ true ∷ false ∷ false ∷ false ∷ false ∷ false ∷ false ∷ false ∷ false ∷ false ∷ false ∷ false ∷ false ∷ false ∷ false ∷ false ∷ false ∷ false ∷ []) n false; agrees = record { inputs = refl; latches = (refl, (refl, (refl, tt))); gates = (refl, (refl, (refl, (refl, (refl, (refl, (refl, (refl, (refl, (refl, (refl, (refl, (refl, (refl, (refl, (refl, (refl, (refl, (refl, (refl, tt)))))))))))))))))))) }; outputs = refl; stores = refl }, (refl, (true ∷ true ∷ true ∷ []), record { values = λ (n : ℕ). get_or (false ∷ false ∷ true ∷ true ∷ true ∷ true ∷ false ∷ false ∷ false ∷ false ∷ true ∷ true ∷ false ∷ false ∷ false ∷ true ∷ false ∷ true ∷ true ∷ false ∷ false ∷ false ∷ true ∷ []) n false; agrees = record { inputs = refl; latches = (refl, (refl, (refl, tt))); gates = (refl, (refl, (refl, (refl, (refl, (refl, (refl, (refl, (refl, (refl, (refl, (refl, (refl, (refl, (refl, (refl, (refl, (refl, (refl, (refl, tt)))))))))))))))))))) }; outputs = refl; stores = refl }, refl))
