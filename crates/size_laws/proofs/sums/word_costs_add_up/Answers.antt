use Rattle.size_laws.proofs.WordCosts.{word_cost_none, word_cost_more, word_cost_front, word_cost_cut}
use Rattle.size_laws.proofs.sums.word_costs_add_up.Goals as goal

pub returns-clause-none : goal.returns-clause-none
returns-clause-none c = word_cost_none

pub returns-clause-more : goal.returns-clause-more
returns-clause-more c = word_cost_more

pub returns-clause-front : goal.returns-clause-front
returns-clause-front c = word_cost_front

pub returns-clause-cut : goal.returns-clause-cut
returns-clause-cut c = word_cost_cut
