use Rattle.std.proofs.Common.{◌∙◌, sym, ap, Some, None, List, ◌∷◌, [], ◌++◌, append-nil}
use Rattle.imp_text.specs.declared.names.NameId.{NameId}
use Rattle.elaborate.specs.Numbers.{shown_by, shown_id}
use Rattle.elaborate.proofs.NameLemmas.{given_next, no_output}
use Rattle.elaborate.proofs.names.latch_ids.Goals as goal
use Rattle.elaborate.proofs.names.latch_ids.Goals.{in-Latch+in_ok-push, in_default}

pub loop-located-preserved : goal.loop-located-preserved
loop-located-preserved c =
    let next = given_next shown_id c.args.statements.now c.loop-located.located-index c.located-item.result in
    elim c.match-located.branch [
      | in-Latch+in_ok-push w ↦
          ap (λ v. v.items) w.ids-is ∙ (w.in_ok-push.ensures.items
          ∙ (ap (λ (l : List NameId). l ++ w.in-Latch.q ∷ []) c.loop-located.invariant ∙ sym (next (Some w.in-Latch.q) c.loop-located-test.true c.located-item.is (ap shown_by w.in-Latch.is))))
      | in_default w ↦
          ap (λ v. v.items) w.ids-is ∙ (c.loop-located.invariant
          ∙ (sym (append-nil _) ∙ sym (next None c.loop-located-test.true c.located-item.is (no_output c.located-item.result.what w.in_default.not-Latch))))
    ]
