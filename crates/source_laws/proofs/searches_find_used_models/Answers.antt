use Rattle.source_laws.proofs.ModelGraph.{begins_with_step, reached_are_all, used_are_reached, itself_by_step}
use Rattle.source_laws.proofs.searches_find_used_models.Goals as goal

pub returns : goal.returns
returns c = record { step = begins_with_step; reached = reached_are_all; used = used_are_reached; contains_itself = itself_by_step }
