use Rattle.std.proofs.Common.{◌++◌, ◌∷◌, [], ℕ, List, ap, ◌∙◌}
use Rattle.demo_design.specs.Texts.{ports_text}
use Rattle.demo_design.proofs.Words.{box_is}
use Rattle.demo_design.proofs.lines.push_box.Goals as goal

pub returns : goal.returns
returns c =
    let j = c.args.j in
    c.in_ok-push.ensures.items
    ∙ (ap (λ (xs : List ℕ). xs ++ 10 ∷ [])
    (c.in_ok-push_ports-2.ensures ∙ ap (λ (xs : List ℕ). xs ++ ports_text 111 98 j) (c.in_ok-push_ports.ensures ∙ ap (λ (xs : List ℕ). xs ++ ports_text 105 115 j) c.in_ok-extend_from_slice.ensures.items))
    ∙ box_is j c.args.text.now.items)
