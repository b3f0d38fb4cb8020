use Rattle.source_laws.proofs.ModelGraph.{no_recursion, within_levels, depths}
use Rattle.source_laws.proofs.levels_bound_chains_of_models.Goals as goal

pub returns : goal.returns
returns c =
    record {
      no_recursion = λ file library level m are. no_recursion file level are library m;
      depth = λ file library level top k are. depths file level are library top k;
      within = λ file level top k n are. within_levels file level are top k n;
    }
