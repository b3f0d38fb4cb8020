use Rattle.std.proofs.Common.{◌≤◌, ◌+◌, ℕ, ap, arith, length}
use Rattle.std.specs.Prelude.{nat_le}
use Rattle.campaign.proofs.NearLemmas.{near_word, small_number}
use Rattle.campaign.proofs.near.is_near_word.Goals as goal

pub encode-wanted-requires-clause-within : goal.encode-wanted-requires-clause-within
encode-wanted-requires-clause-within c = small_number c.args.word.now c.args.y.now c.number_at.result c.number_at.ensures

pub returns : goal.returns
returns c =
    let code = c.args.code.now in
    let rows = c.k.ensures.valid.rows in
    let columns = c.k.ensures.valid.columns in
    let places = c.requires.places in
    let short : length c.args.word.now + code.columns ≤ 32 = omega arith in
    ap (λ (n : ℕ). nat_le n c.args.t)
    (near_word code c.args.word.now c.args.y.now c.args.z.now c.args.checks.now c.number_at.result c.number_of.result c.number_at-2.result c.encode-wanted.result.0 c.weight.result
    c.requires.checks short c.number_at.ensures c.number_of.ensures c.number_at-2.ensures c.encode-wanted.ensures.codeword c.encode-wanted.ensures.within c.weight.ensures)
