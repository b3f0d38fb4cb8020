use Rattle.std.proofs.Common.{◌≡◌, ◌≤◌, ◌∷◌, [], lit≤}
use Rattle.std.proofs.lemmas.Result.{IfOk-weaker}
use Rattle.block_code.specs.Shape.{code_of}
use Rattle.guard_spec.specs.Codes.{Code}
use Rattle.guard_spec.specs.Plain.{corrector_cost}
use Rattle.corrector_tests.proofs.corrections.hamming_code.Goals as goal

pub returns-clause-four : goal.returns-clause-four
returns-clause-four c =
    IfOk-weaker c.new.result (λ (code : Code). code ≡ code_of 3 (6 ∷ 5 ∷ 3 ∷ 7 ∷ [])) (λ (code : Code). corrector_cost code 1 4 ≤ 4096) (λ code e. rw e (lit≤ tt)) c.new.ensures.made

pub returns-clause-three : goal.returns-clause-three
returns-clause-three c =
    IfOk-weaker c.new.result (λ (code : Code). code ≡ code_of 3 (6 ∷ 5 ∷ 3 ∷ 7 ∷ [])) (λ (code : Code). corrector_cost code 1 3 ≤ 4096) (λ code e. rw e (lit≤ tt)) c.new.ensures.made
