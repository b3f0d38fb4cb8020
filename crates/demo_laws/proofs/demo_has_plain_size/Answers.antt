use Rattle.std.proofs.Common.{arith}
use Rattle.demo_laws.proofs.Size.{demo_plain}
use Rattle.demo_laws.proofs.demo_has_plain_size.Goals as goal

pub returns : goal.returns
returns c = λ n size. (demo_plain n size, omega (arith, size))
