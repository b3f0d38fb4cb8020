use Rattle.std.proofs.Common.{sym, ap, get_or, arith}
use Rattle.std.proofs.lemmas.List.{get_or_past}
use Rattle.model_lowering.proofs.NetIn.{place_is, place_past}
use Rattle.model_lowering.proofs.binds.net_of.Goals as goal

pub returns-in-Some : goal.returns-in-Some
returns-in-Some c = ap (λ i. get_or c.args.table.now i 0) (sym (place_is c.args.names.now c.in-Some.id.0 c.args.name.now c.find.ensures.are_names.distinct c.in-Some.ensures.place))

pub returns-in-None : goal.returns-in-None
returns-in-None c = sym (get_or_past c.args.table.now _ 0 (omega (arith, c.requires, place_past c.args.names.now c.args.name.now c.in-None.ensures.absent)))
