use Rattle.source_laws.proofs.Order.{ordered_settle, no_loop}
use Rattle.source_laws.proofs.ordered_nets_settle.Goals as goal

pub returns : goal.returns
returns c = record { settled = λ file library m order one o. ordered_settle file library m one order o; no_loop = λ file library m order one o others. no_loop file library m one order o others }
