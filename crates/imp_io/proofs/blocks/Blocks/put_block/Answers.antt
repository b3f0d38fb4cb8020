use Rattle.std.proofs.Common.{refl}
use Rattle.imp_io.proofs.BlockLemmas.{block-given, put-stopped}
use Rattle.imp_io.proofs.blocks.Blocks.put_block.Goals as goal

pub returns-clause-gives : goal.returns-clause-gives
returns-clause-gives g c =
    let put = rw c.as_slice.ensures.value at c.put_once-self.ensures in
    record {
      same_sink = refl;
      text = λ start text stands. block-given start _ _ text _ _ _ _ c.clear.ensures put stands;
      stopped = λ some. put-stopped _ _ _ _ _ put some;
    }
