use Rattle.std.proofs.Common.{◌++◌, ◌∷◌, ℕ, List, codes, ap, ◌∙◌}
use Rattle.std.specs.List.{flat_map}
use Rattle.netlist_spec.specs.Text.{line_text}
use Rattle.program_spec.specs.Demo.{numbered}
use Rattle.demo_laws.specs.DemoFile.{loaded, next}
use Rattle.demo_design.proofs.Words.{choice_said, choice_is}
use Rattle.demo_design.proofs.lines.push_choice.Goals as goal

pub returns : goal.returns
returns c =
    let old = c.args.text.now.items in
    let e = c.moved_to-e.result in
    let i = c.args.i in
    c.in_ok-extend_from_slice-2.ensures.items
    ∙ (ap (λ (xs : List ℕ). xs ++ codes "\n11- 1\n0-1 1\n")
    (c.in_ok-push_word-3.ensures
    ∙ ap (λ (xs : List ℕ). xs ++ 32 ∷ next e)
    (c.in_ok-push_word-2.ensures
    ∙ ap (λ (xs : List ℕ). xs ++ 32 ∷ numbered 98 i) (c.in_ok-push_word.ensures ∙ ap (λ (xs : List ℕ). xs ++ 32 ∷ loaded e) c.in_ok-extend_from_slice.ensures.items)))
    ∙ (choice_is e i old ∙ ap (λ (k : ℕ). old ++ flat_map line_text (choice_said k i)) c.moved_to-e.ensures))
