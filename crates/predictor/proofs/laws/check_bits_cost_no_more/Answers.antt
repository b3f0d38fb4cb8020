use Rattle.std.proofs.Common.{arith}
use Rattle.predictor.proofs.Checks.{chosen_roots}
use Rattle.predictor.proofs.Costs.{zip_chosen, chosen_cost, zip_same_length}
use Rattle.predictor.proofs.laws.check_bits_cost_no_more.Goals as goal

pub returns : goal.returns
returns c = λ m code j roots cones size costs is_size.
    let chosen = zip_chosen _ code.rows j roots cones costs in
    let few = c.cones_have_one_size.ensures.costs m (chosen_roots code.rows j roots) (chosen_roots code.rows j cones) size chosen is_size in
    let same = zip_same_length _ (chosen_roots code.rows j roots) (chosen_roots code.rows j cones) chosen in
    let total = chosen_cost code.rows j cones in
    omega arith
