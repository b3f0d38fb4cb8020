use Rattle.source_laws.proofs.Ordering.{some_order}
use Rattle.source_laws.proofs.SomeValuation.{some_valuation}
use Rattle.source_laws.proofs.SomeCycle.{some_outcome}
use Rattle.source_laws.proofs.sound_sources_step.Goals as goal

pub returns : goal.returns
returns c = record { order = some_order; fits = some_valuation; cycle = some_outcome }
