use Rattle.demo_design.specs.Texts.{copy_text}
use Rattle.demo_design.proofs.Ranges.{grown}
use Rattle.demo_design.proofs.netlist_text.push_copies.Goals as goal

pub loop-i-preserved : goal.loop-i-preserved
loop-i-preserved c = grown copy_text c.loop-i.i _ _ _ c.loop-i.invariant c.in_ok-push_copy.ensures
