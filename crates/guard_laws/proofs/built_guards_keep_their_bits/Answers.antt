use Rattle.guard_laws.proofs.Kept.{built, telling}
use Rattle.guard_laws.proofs.built_guards_keep_their_bits.Goals as goal

pub returns-clause-built : goal.returns-clause-built
returns-clause-built c = built

pub returns-clause-tells : goal.returns-clause-tells
returns-clause-tells c = telling
