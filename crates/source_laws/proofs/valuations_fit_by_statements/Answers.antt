use Rattle.source_laws.proofs.Statements.{fits_by_each}
use Rattle.source_laws.proofs.Local.{holding_is_local}
use Rattle.source_laws.proofs.valuations_fit_by_statements.Goals as goal

pub returns : goal.returns
returns c = record { each = fits_by_each; local = λ file library s v w. holding_is_local file library v w s }
