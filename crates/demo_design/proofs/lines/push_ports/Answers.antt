use Rattle.demo_design.specs.Texts.{port_text}
use Rattle.demo_design.proofs.Ranges.{grown}
use Rattle.demo_design.proofs.lines.push_ports.Goals as goal

pub loop-i-preserved : goal.loop-i-preserved
loop-i-preserved c = grown (port_text c.args.port c.args.letter c.args.j) c.loop-i.i _ _ _ c.loop-i.invariant c.in_ok-push_port.ensures
