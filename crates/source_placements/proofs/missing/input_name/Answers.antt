use Rattle.std.proofs.Common.{◌≡◌, ◌∙◌, ap, ◌<◌, ◌≤◌, ◌^◌, suc, length, decimal, arith, rules}
use Rattle.std.proofs.lemmas.Fmt.{length-decimal-le}
use Rattle.source_placements.proofs.missing.input_name.Goals as goal

pub new-requires-clause-short : goal.new-requires-clause-short
new-requires-clause-short c =
    let i = c.args.i in
    let fits : i < 2 ^ 8 = search rules in
    let digits : length (decimal i) ≤ 3 = length-decimal-le 3 i (omega arith) (omega arith) (omega arith) in
    let same : length c.as_bytes.result.now ≡ suc (length (decimal i)) = ap length (c.as_bytes.ensures.value ∙ c.in_ok-text.ensures.ok) in
    omega arith
