use Rattle.std.proofs.Common.{sym, ap, get_or}
use Rattle.model_lowering.proofs.NetIn.{name_has_place}
use Rattle.model_lowering.proofs.binds.net_at.Goals as goal

pub returns : goal.returns
returns c = ap (λ i. get_or c.args.table.now i 0) (sym (name_has_place c.args.names.now c.args.id c.len.ensures.are_names.distinct c.requires.id))
