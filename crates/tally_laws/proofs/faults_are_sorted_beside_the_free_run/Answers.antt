use Rattle.tally_laws.proofs.EarlyEnd.{early, whole_run}
use Rattle.tally_laws.proofs.faults_are_sorted_beside_the_free_run.Goals as goal

pub returns : goal.returns
returns c = record { early = λ g m code l p mode t fault xs ys stored zs n faulty shown. early g m code l p mode t fault xs ys stored zs n faulty shown; whole = λ g m code l p mode t fault xs ys stored zs faulty shown. whole_run g m code l p mode t fault xs ys stored zs faulty shown }
