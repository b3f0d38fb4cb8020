use Rattle.tally_laws.proofs.Sorted.{sorted_by_parts, sorted_late}
use Rattle.tally_laws.proofs.faults_are_sorted_by_parts.Goals as goal

pub returns : goal.returns
returns c = record { parts = λ g m code l p mode t fault before between after ys zs wanted shown more later r e f h. sorted_by_parts g code l p mode t fault m before between after ys zs wanted shown more later r e f h; late = λ g code l p mode t fault xs stored ys zs h r e. sorted_late g code l p mode t fault xs stored ys zs h r e }
