use Rattle.std.proofs.Common.{refl}
use Rattle.block_code.proofs.Coding.{words_apart, no_codeword_near, decodes_near, one_near}
use Rattle.block_code.proofs.laws.codes_tell_errors.Goals as goal

pub returns-clause-far : goal.returns-clause-far
returns-clause-far c = λ code d m u w is_code is_distance fits hu hw other. words_apart code is_code d is_distance m fits u w hu hw other

pub returns-clause-detected : goal.returns-clause-detected
returns-clause-detected c = λ code d m z u is_code is_distance fits hu some few word. no_codeword_near code is_code d is_distance m fits z u hu some few word

pub returns-clause-decoded : goal.returns-clause-decoded
returns-clause-decoded c = λ code d t z u is_code is_distance wide fits near. decodes_near code is_code d is_distance t wide _ fits z u refl near

pub returns-clause-unique : goal.returns-clause-unique
returns-clause-unique c = λ code d t m z a b is_code is_distance wide fits is_a is_b near_a near_b. one_near code is_code d is_distance t wide m fits z a b is_a is_b near_a near_b
