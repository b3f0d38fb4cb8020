use Rattle.std.proofs.Common.{arith}
use Rattle.std.proofs.lemmas.Grind.{common_steps}
use Rattle.imp_text.proofs.NamesLemmas.{stands_in-at}
use Rattle.blif_read.proofs.summary.Summary.has_named.Goals as goal

pub returns : goal.returns
returns c = grind (arith, common_steps, stands_in-at)
