use Rattle.block_code.proofs.Shapes.{codeword_bits, codeword_below}
use Rattle.block_code.proofs.code.Code.encode.Goals as goal

pub returns-clause-codeword : goal.returns-clause-codeword
returns-clause-codeword c =
    let checks = c.check_bits.ensures in
    codeword_bits c.args.self.now checks.valid c.args.m c.requires.places _ _ c.requires.within checks.within checks.sum

pub returns-clause-within : goal.returns-clause-within
returns-clause-within c =
    let checks = c.check_bits.ensures in
    codeword_below c.args.self.now checks.valid c.args.m c.requires.places _ _ c.requires.within checks.within
