use Rattle.tally_laws.proofs.Settled.{stays, settled}
use Rattle.tally_laws.proofs.settled_runs_are_sorted.Goals as goal

pub returns : goal.returns
returns c = record { stays = λ mode a b o h. stays mode a b o h; sorted = λ g code l p mode t fault xs ys stored zs n now faulty shown o. settled g code l p mode t fault xs ys stored zs n now faulty shown o }
