use Rattle.tally_laws.proofs.Seen.{outcome_is_seen, seen_parts, outcome_by_parts, in_row, none_first, none_last}
use Rattle.tally_laws.proofs.outcomes_are_seen.Goals as goal

pub returns : goal.returns
returns c = record { outcome = λ code l p mode t ys zs e. outcome_is_seen code l p t mode ys zs e; parts = λ code l p t ys zs more later e. seen_parts code l p t ys zs more later e; by_parts = λ code l p mode t ys zs wanted shown more later e f g. outcome_by_parts code l p t mode ys zs wanted shown more later e f g; in_row = λ a b c. in_row a b c; first = λ a. none_first a; last = λ a. none_last a }
