use Rattle.source_laws.proofs.PlacedCosts.{placed_model_costs}
use Rattle.source_laws.proofs.placed_models_cost_their_statements.Goals as goal

pub returns : goal.returns
returns c = placed_model_costs
