use Rattle.tally_laws.proofs.Counts.{same_is, is_same, one_more, add_up, all_cells, one_tally}
use Rattle.tally_laws.proofs.tallies_add_up.Goals as goal

pub returns : goal.returns
returns c = record { apart = λ a b. (same_is a b, is_same a b); counted = λ os o. one_more os o; all = λ os. add_up os; cells = λ g m code l p mode t xs ys cycle tally e is_tally. all_cells g code l p mode t xs ys cycle m tally e is_tally; one = λ g code l p mode t xs ys cycle tally other ordered a b. one_tally g code l p mode t xs ys cycle ordered tally other a b }
