use Rattle.std.proofs.Common.{◌++◌, ℕ, List, codes, ap, ◌∙◌}
use Rattle.std.specs.List.{flat_map}
use Rattle.program_spec.specs.Demo.{state_bits}
use Rattle.demo_laws.specs.DemoFile.{boxes}
use Rattle.demo_design.specs.Texts.{head_text, latch_text, box_text, choice_text, copy_text}
use Rattle.demo_design.proofs.Words.{netlist_is}
use Rattle.demo_design.proofs.netlist_text.netlist_text.Goals as goal

pub returns : goal.returns
returns c =
    let n = c.args.n in
    c.in_ok-extend_from_slice.ensures.items
    ∙ (ap (λ (xs : List ℕ). xs ++ codes ".end\n")
    (c.in_ok-push_copies.ensures
    ∙ ap (λ (xs : List ℕ). xs ++ flat_map copy_text (state_bits n))
    (c.in_ok-push_choices.ensures
    ∙ ap (λ (xs : List ℕ). xs ++ flat_map (choice_text n) (state_bits n))
    (c.in_ok-push_boxes.ensures
    ∙ ap (λ (xs : List ℕ). xs ++ flat_map box_text (boxes n))
    (c.in_ok-push_latches.ensures
    ∙ ap (λ (xs : List ℕ). xs ++ flat_map latch_text (state_bits n)) (c.in_ok-push_head.ensures ∙ ap (λ (xs : List ℕ). xs ++ head_text n) c.new-text.ensures.items)))))
    ∙ netlist_is n)
