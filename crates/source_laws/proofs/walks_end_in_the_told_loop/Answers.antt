use Rattle.source_laws.proofs.Order.{told_loop, distinct_fit}
use Rattle.source_laws.proofs.walks_end_in_the_told_loop.Goals as goal

pub returns : goal.returns
returns c = record { told = λ file library m left front others start first are e b f d. told_loop file library m left are front others start first e b f d; fits = distinct_fit }
