use Rattle.std.proofs.Common.{◌∙◌, ap}
use Rattle.std.specs.List.{list_any}
use Rattle.blif_read.specs.declared.file.Located.{Located}
use Rattle.main_check.specs.Counts.{is_latch}
use Rattle.main_check.proofs.CountLemmas.{any_latch}
use Rattle.main_check.proofs.counts.has_latch.Goals as goal

pub returns : goal.returns
returns c =
    c.some_latch.ensures ∙ (ap (list_any (λ (s : Located). is_latch s.what)) c.deref.ensures.value ∙ any_latch c.args.m.now.names c.args.m.now.statements.items)
