use Rattle.imp_io.proofs.BlockLemmas.{flushed-stopped, flushed-whole}
use Rattle.imp_io.proofs.blocks.Blocks.flush.Goals as goal

pub returns-in-None : goal.returns-in-None
returns-in-None g c =
    let given = c.put_block.ensures.gives in
    record {
      same_sink = given.same_sink;
      text = λ start text stands. flushed-whole start _ text _ _ c.in-None.is c.put_block.ensures.empty (given.text start text stands);
      stopped = λ some. (given.stopped some).1;
    }

pub returns-in-Some : goal.returns-in-Some
returns-in-Some g c =
    let given = c.put_block.ensures.gives in
    record {
      same_sink = given.same_sink;
      text = λ start text stands. flushed-stopped start _ text _ _ _ c.in-Some.is (given.text start text stands);
      stopped = λ some. (given.stopped some).1;
    }
