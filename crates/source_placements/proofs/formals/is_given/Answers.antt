use Rattle.std.proofs.Common.{◌∙◌}
use Rattle.source_placements.proofs.PortLemmas.{given_is}
use Rattle.source_placements.proofs.formals.is_given.Goals as goal

pub returns : goal.returns
returns c = c.is_some.ensures ∙ given_is c.find.result c.args.name.now c.args.given.now c.find.ensures.place c.find.ensures.absent
