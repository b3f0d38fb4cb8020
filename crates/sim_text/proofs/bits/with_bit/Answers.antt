use Rattle.std.proofs.Common.{◌≡◌, ◌+◌, ◌*◌, ◌^◌, ◌%◌, refl, ap, ◌∙◌, arith, bit_or}
use Rattle.std.proofs.lemmas.Nat.{one_shl}
use Rattle.std.specs.Int.Bits.{or_shifted_r}
use Rattle.sim_text.proofs.bits.with_bit.Goals as goal

pub returns-then-bit : goal.returns-then-bit
returns-then-bit c =
    let byte = c.args.byte in
    let whole : 1 * 2 ^ c.args.place % 256 ≡ 1 * 2 ^ c.args.place = one_shl c.args.place 8 c.requires.inside ∙ omega arith in
    let sum : 1 * 2 ^ c.args.place + byte ≡ byte + 2 ^ c.args.place = omega arith in
    ap (bit_or byte) whole ∙ (or_shifted_r 1 c.args.place byte c.requires.rest ∙ (sum ∙ rw c.if-bit.true refl))
