use Rattle.named_netlist.proofs.NamedReads.{texts-are-read}
use Rattle.named_netlist.proofs.laws.named_texts_are_read.Goals as goal

pub returns : goal.returns
returns c = texts-are-read
