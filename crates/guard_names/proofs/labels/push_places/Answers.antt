use Rattle.std.proofs.Common.{◌∙◌, ap, ◌++◌, ◌∷◌, [], arith}
use Rattle.named_netlist.specs.declared.label.Label.{Label}
use Rattle.guard_names.specs.Labels.{kind_label}
use Rattle.guard_names.proofs.Pushed.{one_more}
use Rattle.guard_names.proofs.labels.push_places.Goals as goal

pub loop-place-preserved : goal.loop-place-preserved
loop-place-preserved c =
    one_more (kind_label c.args.kind c.args.word) 0 c.args.labels.now.items c.loop-place.labels.items c.push.new.self.items c.loop-place.place c.loop-place.place (omega arith) c.loop-place.invariant
    (c.in_ok-push.ensures.items ∙ ap (λ (x : Label). c.loop-place.labels.items ++ x ∷ []) c.label.ensures)
