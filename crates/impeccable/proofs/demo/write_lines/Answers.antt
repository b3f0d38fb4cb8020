use Rattle.std.proofs.Common.{[], arith}
use Rattle.std.proofs.lemmas.Grind.{common_steps}
use Rattle.imp_io.proofs.PutLemmas.{Puts-same_sink}
use Rattle.impeccable.proofs.demo.write_lines.Goals as goal

pub returns : goal.returns
returns g c =
    let put = c.flush.ensures.text _ _ (c.put_lines.ensures.text _ [] c.new-blocks.ensures.nothing) in
    Puts-same_sink g.O.Sink.seen _ _ _ _ c.flush.new.self.to.now (grind (arith, common_steps)) put
