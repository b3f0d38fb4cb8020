use Rattle.blif_read.proofs.BuildingLemmas.{on_ok}
use Rattle.blif_read.proofs.model.ModelSoFar.add_line.Goals as goal

pub returns-clause-adds : goal.returns-clause-adds
returns-clause-adds c =
    on_ok _ _ c.add_other.result (λ adds n name lines is. adds n name lines (c.in_ok-close_cover.ensures.keeps n name lines is)) c.add_other.ensures.adds
