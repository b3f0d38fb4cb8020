use Rattle.std.proofs.Common.{[], arith}
use Rattle.std.proofs.lemmas.Grind.{common_steps}
use Rattle.imp_io.proofs.PutLemmas.{Puts-same_sink}
use Rattle.program_spec.specs.Printed.{run_text}
use Rattle.impeccable.proofs.SimLemmas.{ran-whole}
use Rattle.impeccable.proofs.sim.write_cycles.Goals as goal

pub returns : goal.returns
returns g c =
    let ran = c.put_cycles.ensures in
    let put = c.flush.ensures.text _ _ (ran.2.text _ [] c.new-blocks.ensures.nothing) in
    (run_text ran.0, ran-whole _ _ ran.0 ran.1, Puts-same_sink g.O.Sink.seen _ _ _ _ c.flush.new.self.to.now (grind (arith, common_steps)) put)
