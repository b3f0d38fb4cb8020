use Rattle.std.proofs.Common.{◌++◌, ◌∷◌, [], ℕ, List, codes, ap, ◌∙◌}
use Rattle.program_spec.specs.Demo.{state_bits}
use Rattle.demo_design.specs.Texts.{names_text}
use Rattle.demo_design.proofs.Words.{head_is}
use Rattle.demo_design.proofs.lines.push_head.Goals as goal

pub returns : goal.returns
returns c =
    let n = c.args.n in
    c.in_ok-push.ensures.items
    ∙ (ap (λ (xs : List ℕ). xs ++ 10 ∷ [])
    (c.in_ok-push_words-2.ensures
    ∙ ap (λ (xs : List ℕ). xs ++ names_text 99 (state_bits n))
    (c.in_ok-extend_from_slice-2.ensures.items
    ∙ ap (λ (xs : List ℕ). xs ++ codes "\n.outputs") (c.in_ok-push_words.ensures ∙ ap (λ (xs : List ℕ). xs ++ names_text 112 (state_bits n)) c.in_ok-extend_from_slice.ensures.items)))
    ∙ head_is n c.args.text.now.items)
