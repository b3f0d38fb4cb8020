use Rattle.std.proofs.Common.{◌≡◌, subst}
use Rattle.netlist_spec.specs.SourceRun.{Bits}
use Rattle.guard_spec.specs.Codes.{apart}
use Rattle.block_code.proofs.Coding.{apart_sym, apart_zero, apart_same, apart_triangle}
use Rattle.block_code.proofs.laws.words_have_distances.Goals as goal

pub returns-clause-symmetric : goal.returns-clause-symmetric
returns-clause-symmetric c = apart_sym

pub returns-clause-equal : goal.returns-clause-equal
returns-clause-equal c = λ a b. (apart_zero a b, λ e. subst (λ (w : Bits). apart a w ≡ 0) e (apart_same a))

pub returns-clause-triangle : goal.returns-clause-triangle
returns-clause-triangle c = apart_triangle
