use Rattle.std.proofs.Common.{ℕ, ◌<◌, List, [], ◌∷◌, ◌++◌, ap, length, arith}
use Rattle.std.proofs.lemmas.Grind.{common_steps}
use Rattle.imp_io.proofs.BlockLemmas.{Gives-append, Gives-text}
use Rattle.impeccable.proofs.SimLemmas.{some-line}
use Rattle.impeccable.proofs.sim.put_line.Goals as goal

pub returns-else-is_empty : goal.returns-else-is_empty
returns-else-is_empty g c =
    let some : 0 < length c.args.bits.now = grind (arith, common_steps) in
    Gives-text (ap (λ (l : List ℕ). l ++ 10 ∷ []) (some-line c.args.bits.now some)) (Gives-append c.put_bits.ensures c.put-else-is_empty.ensures)
