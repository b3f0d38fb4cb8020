use Rattle.block_code.proofs.Shapes.{syndrome_bits, syndrome_below, zero_on_codewords}
use Rattle.block_code.proofs.code.Code.syndrome.Goals as goal

pub returns-clause-syndrome : goal.returns-clause-syndrome
returns-clause-syndrome c =
    let checks = c.check_bits.ensures in
    syndrome_bits c.args.self.now checks.valid c.args.m c.requires.places _ _ checks.sum

pub returns-clause-within : goal.returns-clause-within
returns-clause-within c =
    let checks = c.check_bits.ensures in
    syndrome_below c.args.self.now checks.valid c.args.m c.requires.places _ _ c.requires.within checks.within

pub returns-clause-zero_on_codewords : goal.returns-clause-zero_on_codewords
returns-clause-zero_on_codewords c =
    zero_on_codewords c.args.self.now c.check_bits.ensures.valid c.args.m c.requires.places c.args.z.0 _ (returns-clause-within c) (returns-clause-syndrome c)
