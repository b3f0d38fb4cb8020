use Rattle.program_examples.proofs.DemoPlain.{demo_plain}
use Rattle.program_examples.proofs.small_demo_has_a_size.Goals as goal

pub returns : goal.returns
returns c = demo_plain
