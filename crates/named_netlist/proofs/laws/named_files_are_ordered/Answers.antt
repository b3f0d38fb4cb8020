use Rattle.named_netlist.proofs.NamedOrder.{files-ordered}
use Rattle.named_netlist.proofs.laws.named_files_are_ordered.Goals as goal

pub returns : goal.returns
returns c = files-ordered
