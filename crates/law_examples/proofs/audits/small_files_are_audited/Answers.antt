use Rattle.std.proofs.Common.{refl}
use Rattle.law_examples.proofs.audits.small_files_are_audited.Goals as goal

pub returns : goal.returns
returns c = record { shared = refl; independent = refl; wide = refl; unused = refl; output_read = refl }
