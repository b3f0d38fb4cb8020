use Rattle.std.proofs.Common.{[], sym}
use Rattle.imp_io.specs.Sink.{bytes_of}
use Rattle.imp_io.proofs.BlockLemmas.{Gives-append, Gives-text}
use Rattle.imp_io.proofs.PieceLemmas.{pieces-more}
use Rattle.imp_io.proofs.blocks.Blocks.put_all.Goals as goal

pub loop-piece-preserved : goal.loop-piece-preserved
loop-piece-preserved g c =
    Gives-text (sym (pieces-more bytes_of c.args.pieces.now c.loop-piece.piece-index (record { ref_ptr = (0, 0); now = [] }) c.loop-piece-test.true))
    (Gives-append c.loop-piece.invariant c.put.ensures)
