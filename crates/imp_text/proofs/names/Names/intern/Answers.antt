use Rattle.std.proofs.Common.{sym}
use Rattle.imp_text.proofs.NamesLemmas.{stands_in-at, with_name-present}
use Rattle.imp_text.proofs.names.Names.intern.Goals as goal

pub returns-in-Some-clause-names : goal.returns-in-Some-clause-names
returns-in-Some-clause-names c =
    sym (with_name-present c.args.self.now c.args.name.now (stands_in-at c.args.self.now c.in-Some.id.0 c.args.name.now c.in-Some.ensures.place))
