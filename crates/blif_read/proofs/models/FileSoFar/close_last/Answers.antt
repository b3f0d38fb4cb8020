use Rattle.std.proofs.Common.{sym, ◌∙◌}
use Rattle.blif_read.proofs.BuildingLemmas.{closed_models}
use Rattle.blif_read.proofs.models.FileSoFar.close_last.Goals as goal

pub returns-in_ok-push-clause-closed : goal.returns-in_ok-push-clause-closed
returns-in_ok-push-clause-closed c =
    λ lines is.
    closed_models c.args.self.now.closed.items c.push.new.self.items c.args.self.now.last c.in-Some.last c.in_ok-close.field-0 lines (sym c.take.ensures.value ∙ c.in-Some.is)
    c.in_ok-push.ensures.items c.in_ok-close.ensures.model c.in_ok-close.ensures.ids is
