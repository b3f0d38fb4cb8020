use Rattle.std.proofs.Common.{◌≡◌, ◌≤◌, ◌∷◌, [], lit≤}
use Rattle.std.proofs.lemmas.Result.{IfOk-weaker}
use Rattle.block_code.specs.Shape.{code_of}
use Rattle.guard_spec.specs.Codes.{Code}
use Rattle.guard_spec.specs.Plain.{corrector_cost}
use Rattle.corrector_tests.proofs.corrections.far_code.Goals as goal

pub returns-clause-two : goal.returns-clause-two
returns-clause-two c =
    IfOk-weaker c.new.result (λ (code : Code). code ≡ code_of 6 (15 ∷ 60 ∷ [])) (λ (code : Code). corrector_cost code 2 2 ≤ 4096) (λ code e. rw e (lit≤ tt)) c.new.ensures.made
