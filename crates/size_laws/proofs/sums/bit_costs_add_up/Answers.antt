use Rattle.size_laws.proofs.BitCosts.{detected_bit, corrected_bit, bit_within, corrector_within}
use Rattle.size_laws.proofs.sums.bit_costs_add_up.Goals as goal

pub returns-clause-detect : goal.returns-clause-detect
returns-clause-detect c = detected_bit

pub returns-clause-correct : goal.returns-clause-correct
returns-clause-correct c = corrected_bit

pub returns-clause-within : goal.returns-clause-within
returns-clause-within c = bit_within

pub returns-clause-bound : goal.returns-clause-bound
returns-clause-bound c = corrector_within
