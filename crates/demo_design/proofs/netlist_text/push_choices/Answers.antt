use Rattle.demo_design.specs.Texts.{choice_text}
use Rattle.demo_design.proofs.Ranges.{grown}
use Rattle.demo_design.proofs.netlist_text.push_choices.Goals as goal

pub loop-i-preserved : goal.loop-i-preserved
loop-i-preserved c = grown (choice_text c.args.n) c.loop-i.i _ _ _ c.loop-i.invariant c.in_ok-push_choice.ensures
