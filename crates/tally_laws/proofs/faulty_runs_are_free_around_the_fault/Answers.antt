use Rattle.tally_laws.proofs.Parts.{elsewhere, by_parts, late}
use Rattle.tally_laws.proofs.faulty_runs_are_free_around_the_fault.Goals as goal

pub returns : goal.returns
returns c = record { elsewhere = λ m fault c s xs states outs h. elsewhere m fault c s xs states outs h; parts = λ g m fault now met before between after stored faulty rest zs shown later. by_parts g m fault now met before between after stored faulty rest zs shown later; late = λ g fault xs stored zs h r. late g fault xs stored zs h r }
