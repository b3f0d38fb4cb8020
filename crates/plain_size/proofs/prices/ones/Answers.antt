use Rattle.std.proofs.Common.{sym, ◌∙◌, ap, ℕ, ◌+◌, arith}
use Rattle.std.specs.Prelude.{count_ones}
use Rattle.std.proofs.lemmas.Nat.{ones-le}
use Rattle.plain_size.proofs.PriceLemmas.{ones_more}
use Rattle.plain_size.proofs.prices.ones.Goals as goal

pub loop-i-preserved : goal.loop-i-preserved
loop-i-preserved c =
    let e = ones_more c.args.code.now c.loop-i.i c.row.result c.row.ensures.bits c.row.ensures.within in
    let h = ones-le 32 c.row.result c.row.type_inv in
    let f = c.loop-i.invariant.few in
    record { ones = ap (λ (x : ℕ). x + count_ones c.row.result) c.loop-i.invariant.ones ∙ sym e; few = omega arith }
