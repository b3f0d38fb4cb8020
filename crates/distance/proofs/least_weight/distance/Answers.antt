use Rattle.std.proofs.Common.{ℕ, ◌*◌, ◌%◌, ◌^◌, ◌≤◌, subst, arith}
use Rattle.guard_spec.specs.Codes.{data_places}
use Rattle.distance.proofs.Least.{IsLeast, above_one, least_first, least_last, is_distance, is_least_data}
use Rattle.distance.proofs.least_weight.distance.Goals as goal

pub codeword_weight-d-requires : goal.codeword_weight-d-requires
codeword_weight-d-requires c = above_one _ c.k.ensures.valid.rows.0

pub loop-u-init : goal.loop-u-init
loop-u-init c = least_first c.args.c.now c.k.ensures.valid.rows.0 _ c.codeword_weight-d.ensures

seen : (c : goal.After-loop-u) → IsLeast c.args.c.now (2 ^ data_places c.args.c.now) c.loop-u.d c.loop-u.least
seen c =
    let last = subst (λ (k : ℕ). 1 * 2 ^ k % 2 ^ 32 ≤ c.loop-u.u) c.k.ensures.rows c.loop-u-test.false in
    least_last _ _ _ _ (omega (arith, c.k.ensures.valid.rows.1)) c.loop-u.invariant last

pub returns-clause-distance : goal.returns-clause-distance
returns-clause-distance c = is_distance _ _ _ (seen c)

pub returns-clause-least : goal.returns-clause-least
returns-clause-least c = is_least_data _ _ _ (seen c)
