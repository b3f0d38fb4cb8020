use Rattle.std.proofs.Common.{List, ℕ, ◌++◌, codes, ap, append-nil}
use Rattle.imp_io.proofs.BlockLemmas.{Gives-append, Gives-text}
use Rattle.impeccable.proofs.code.put_size.Goals as goal

pub returns : goal.returns
returns g c =
    let digits = append-nil c.as_bytes.result.now in
    rw (← c.format.ensures.text, ← c.as_bytes.ensures.value, ← c.from.ensures) (Gives-append (Gives-text (ap (λ (l : List ℕ). codes "code " ++ l) digits) c.put_all.ensures) c.put_number.ensures)
