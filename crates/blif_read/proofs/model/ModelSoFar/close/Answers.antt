use Rattle.blif_read.proofs.BuildingLemmas.{closed_model}
use Rattle.blif_read.proofs.model.ModelSoFar.close.Goals as goal

pub returns-clause-model : goal.returns-clause-model
returns-clause-model c = λ n name lines is. (closed_model c.close_cover.new.self n name lines c.in_ok-close_cover.ensures.no_cover (c.in_ok-close_cover.ensures.keeps n name lines is)).0

pub returns-clause-ids : goal.returns-clause-ids
returns-clause-ids c = λ n name lines is. (closed_model c.close_cover.new.self n name lines c.in_ok-close_cover.ensures.no_cover (c.in_ok-close_cover.ensures.keeps n name lines is)).1
