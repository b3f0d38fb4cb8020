use Rattle.std.proofs.Common.{◌≡◌, ◌≤◌, ◌++◌, map, drop, length}
use Rattle.gate_net.specs.Gate.{net_number}
use Rattle.named_netlist.specs.declared.label.Label.TheVariants.{Inner}
use Rattle.guard_names.specs.Labels.{IsRising, between}
use Rattle.guard_names.proofs.own.push_between.Given as goal

abbrev pub invariant-loop-i : goal.invariant-loop-i
invariant-loop-i l = record {
  labels : l.initial.labels.items ++ between (λ k. Inner k) (length l.initial.labels.items) 0 (map net_number l.nets) l.own
      ≡ l.labels.items ++ between (λ k. Inner k) (length l.labels.items) l.inner (map net_number (drop l.i l.nets)) (drop l.i l.own);
  rising : IsRising (length l.labels.items) (map net_number (drop l.i l.nets));
  few : l.inner ≤ length l.labels.items;
}
