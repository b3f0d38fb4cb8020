use Rattle.demo_laws.proofs.Reading.{demo_is_read}
use Rattle.demo_laws.proofs.demo_is_read.Goals as goal

pub returns : goal.returns
returns c = demo_is_read
