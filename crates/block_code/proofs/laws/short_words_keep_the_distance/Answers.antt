use Rattle.block_code.proofs.Coding.{short_weight, first_rows}
use Rattle.block_code.proofs.laws.short_words_keep_the_distance.Goals as goal

pub returns-clause-weights : goal.returns-clause-weights
returns-clause-weights c = λ code d u is_code is_distance fits some. short_weight code is_code d is_distance u fits some

pub returns-clause-codes : goal.returns-clause-codes
returns-clause-codes c = λ code d e m is_code is_distance fits short. first_rows code is_code d is_distance m e fits short
