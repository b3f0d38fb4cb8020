use Rattle.lowering.proofs.CoverLemmas.{has_op}
use Rattle.blif_read.specs.View.{cover_of}
use Rattle.lowering.proofs.narrow.op_of.Goals as goal

pub returns : goal.returns
returns c =
    has_op (cover_of c.args.cover.now) c.cover_value.result c.cover_value-2.result c.cover_value-3.result c.cover_value-4.result
    c.from-at_00.result c.from-at_01.result c.from-at_10.result c.from-at_11.result
    c.from-at_00.ensures c.from-at_01.ensures c.from-at_10.ensures c.from-at_11.ensures
    c.cover_value.ensures c.cover_value-2.ensures c.cover_value-3.ensures c.cover_value-4.ensures
