use Rattle.std.proofs.Common.{arith}
use Rattle.named_netlist.specs.declared.label.Label.TheVariants.{Rail}
use Rattle.guard_names.proofs.Pushed.{one_more}
use Rattle.guard_names.proofs.labels.push_rails.Goals as goal

pub loop-i-preserved : goal.loop-i-preserved
loop-i-preserved c = one_more (λ k. Rail k) 0 c.args.labels.now.items c.loop-i.labels.items c.push.new.self.items c.loop-i.i c.loop-i.i (omega arith) c.loop-i.invariant c.in_ok-push.ensures.items
