use Rattle.size_laws.proofs.GateCones.{one_gate_cone_cost}
use Rattle.size_laws.proofs.sizes.gate_cones_have_one_cost.Goals as goal

pub returns : goal.returns
returns c = one_gate_cone_cost
