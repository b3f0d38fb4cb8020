use Rattle.guard_laws.proofs.Sizes.{size_no_more}
use Rattle.guard_laws.proofs.machines_cost_no_more.Goals as goal

pub returns : goal.returns
returns c = λ file library m machine code mode radius rails k l small large means words. size_no_more file library m machine means code mode radius rails k l words small large
