use Rattle.source_laws.proofs.GateCosts.{costs_no_more, gates_within_cost, still_stands, reads_compose}
use Rattle.source_laws.proofs.gates_cost_no_more_than_cones.Goals as goal

pub returns : goal.returns
returns c =
    record {
      cone = λ file library m machine owners x n is inputs_are latches_are gates_of stand. costs_no_more file library m machine is inputs_are latches_are owners gates_of x n stand;
      all = gates_within_cost;
      kept = λ file library m leaves owners more x n stand. still_stands file library m leaves more stand;
      in_two_steps = reads_compose;
    }
