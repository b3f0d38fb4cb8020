use Rattle.std.proofs.Common.{◌≡◌, ◌∙◌, ap, ℕ, ◌+◌, ◌-◌, ◌++◌, map, arith}
use Rattle.std.specs.List.{range_with_len}
use Rattle.named_netlist.specs.declared.label.Label.TheVariants.{Inner}
use Rattle.guard_names.proofs.Pushed.{one_more}
use Rattle.guard_names.proofs.labels.push_inner.Goals as goal

pub loop-i-preserved : goal.loop-i-preserved
loop-i-preserved c =
    let first = c.args.first in
    let i = c.loop-i.i in
    let least = c.loop-i.auto.i in
    let next : i - first + 1 ≡ i + 1 - first = omega arith in
    one_more (λ k. Inner k) first c.args.labels.now.items c.loop-i.labels.items c.push.new.self.items (i - first) i (omega arith) c.loop-i.invariant c.in_ok-push.ensures.items
    ∙ ap (λ (n : ℕ). c.args.labels.now.items ++ map (λ k. Inner k) (range_with_len first n)) next
