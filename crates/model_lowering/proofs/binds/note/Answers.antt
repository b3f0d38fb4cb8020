use Rattle.std.proofs.Common.{sym, ap, set, arith}
use Rattle.std.proofs.lemmas.List.{set_past}
use Rattle.model_lowering.proofs.NetIn.{place_is, place_past}
use Rattle.model_lowering.proofs.binds.note.Goals as goal

pub returns-in-Some : goal.returns-in-Some
returns-in-Some c = ap (λ i. set c.args.table.now i c.args.net) (sym (place_is c.args.names.now c.in-Some.id.0 c.args.name.now c.find.ensures.are_names.distinct c.in-Some.ensures.place))

pub returns-in_default : goal.returns-in_default
returns-in_default c = sym (set_past c.args.table.now _ c.args.net (omega (arith, c.requires, place_past c.args.names.now c.args.name.now c.in_default.ensures.absent)))
