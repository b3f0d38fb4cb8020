use Rattle.gate_net.specs.Bit.{bit_of}
use Rattle.independence_audit.proofs.TableLemmas.{bit_added}
use Rattle.independence_audit.proofs.table.add.Goals as goal

pub returns : goal.returns
returns c = λ all ks kind kept e k. bit_added all ks kind kept c.args.table.now c.args.id (bit_of c.args.bit) c.with_bit.result _ c.requires e c.with_bit.ensures k
