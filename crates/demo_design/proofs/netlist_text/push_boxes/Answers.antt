use Rattle.demo_design.specs.Texts.{box_text}
use Rattle.demo_design.proofs.Ranges.{grown}
use Rattle.demo_design.proofs.netlist_text.push_boxes.Goals as goal

pub loop-j-preserved : goal.loop-j-preserved
loop-j-preserved c = grown box_text c.loop-j.j _ _ _ c.loop-j.invariant c.in_ok-push_box.ensures
