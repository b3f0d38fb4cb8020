use Rattle.std.proofs.Common.{sym}
use Rattle.block_code.proofs.Words.{weight_bits}
use Rattle.block_code.proofs.word.weight.Goals as goal

pub returns : goal.returns
returns c = λ places below. sym (weight_bits places c.args.w.0 below)
