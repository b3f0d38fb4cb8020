use Rattle.block_code.proofs.Coding.{length_syndrome, codeword_from_zero, zero_from_codeword, one_error}
use Rattle.block_code.proofs.laws.syndromes_tell_errors.Goals as goal

pub returns-clause-places : goal.returns-clause-places
returns-clause-places c = λ code m z is_code long. length_syndrome code is_code m z long

pub returns-clause-zero : goal.returns-clause-zero
returns-clause-zero c = λ code m z is_code long. (codeword_from_zero code is_code m z long, zero_from_codeword code is_code m z)

pub returns-clause-different : goal.returns-clause-different
returns-clause-different c = λ code d t m e f is_code is_distance wide fits he hf few_e few_f same. one_error code is_code d is_distance t wide m fits e f he hf few_e few_f same
