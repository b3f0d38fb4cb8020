use Rattle.std.proofs.Common.{[]}
use Rattle.std.proofs.lemmas.Result.{err_from_is_err_and}
use Rattle.imp_io.specs.Sink.{bytes_of}
use Rattle.imp_io.proofs.PieceLemmas.{pieces-split}
use Rattle.imp_io.proofs.PutLemmas.{Puts-append, Puts-stopped}
use Rattle.imp_io.proofs.pieces.put_all.Goals as goal

pub returns-in_err-put : goal.returns-in_err-put
returns-in_err-put g c =
    let p = err_from_is_err_and c.from_residual.result c.from_residual.ensures.1 in
    let cut = pieces-split bytes_of c.args.pieces.now c.loop-piece.piece-index (record { ref_ptr = (0, 0); now = [] }) c.loop-piece-test.true in
    rw (p.1, p.2, cut.1) (Puts-stopped _ _ _ _ _ (Puts-append _ _ _ _ _ _ _ c.loop-piece.invariant c.in_err-put.ensures.puts))
