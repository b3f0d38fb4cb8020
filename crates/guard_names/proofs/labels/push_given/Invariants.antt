use Rattle.std.proofs.Common.{◌≡◌, ◌++◌, map, take}
use Rattle.named_netlist.specs.declared.label.Label.TheVariants.{Given}
use Rattle.guard_names.proofs.labels.push_given.Given as goal

abbrev pub invariant-loop-n : goal.invariant-loop-n
invariant-loop-n l = l.labels.items ≡ l.initial.labels.items ++ map (λ n. Given n) (take l.n-index l.names)
