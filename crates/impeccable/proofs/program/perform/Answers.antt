-- A demo answers over any files.
use Rattle.impeccable.proofs.program.perform.Goals as goal

pub returns-in-Demo-clause-answers : goal.returns-in-Demo-clause-answers
returns-in-Demo-clause-answers g c = rw c.in-Demo.is (c.write_demo.ensures.answers (g.F.Files.seen c.args.files.now))
