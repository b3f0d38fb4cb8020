use Rattle.demo_design.specs.Texts.{latch_text}
use Rattle.demo_design.proofs.Ranges.{grown}
use Rattle.demo_design.proofs.netlist_text.push_latches.Goals as goal

pub loop-i-preserved : goal.loop-i-preserved
loop-i-preserved c = grown latch_text c.loop-i.i _ _ _ c.loop-i.invariant c.in_ok-push_latch.ensures
