use Rattle.blif_read.proofs.SpelledLemmas.{bind-some}
use Rattle.blif_read.proofs.statement.read_bind.Goals as goal

pub unwrap-requires : goal.unwrap-requires
unwrap-requires c = bind-some c.args.port.now c.split_port.result c.requires.bind c.split_port.ensures
