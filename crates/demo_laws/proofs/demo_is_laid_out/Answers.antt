use Rattle.std.proofs.Common.{refl}
use Rattle.demo_laws.proofs.Layouts.{demo_is_laid_out, no_layout_fault, hamming_distance}
use Rattle.demo_laws.proofs.Ports.{one_layout}
use Rattle.demo_laws.proofs.demo_is_laid_out.Goals as goal

pub returns : goal.returns
returns c = record { words = λ n size. (demo_is_laid_out n, no_layout_fault n); one = one_layout; distance = hamming_distance; strong = refl }
