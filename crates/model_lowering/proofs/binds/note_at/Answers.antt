use Rattle.std.proofs.Common.{sym, ap, set}
use Rattle.model_lowering.proofs.NetIn.{name_has_place}
use Rattle.model_lowering.proofs.binds.note_at.Goals as goal

pub returns : goal.returns
returns c = ap (λ i. set c.args.table.now i c.args.net) (sym (name_has_place c.args.names.now c.args.id c.len.ensures.are_names.distinct c.requires.id))
