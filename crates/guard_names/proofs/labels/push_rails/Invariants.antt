use Rattle.std.proofs.Common.{◌≡◌, ◌++◌, map}
use Rattle.std.specs.List.{range_with_len}
use Rattle.named_netlist.specs.declared.label.Label.TheVariants.{Rail}
use Rattle.guard_names.proofs.labels.push_rails.Given as goal

abbrev pub invariant-loop-i : goal.invariant-loop-i
invariant-loop-i l = l.labels.items ≡ l.initial.labels.items ++ map (λ i. Rail i) (range_with_len 0 l.i)
