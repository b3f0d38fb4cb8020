use Rattle.std.proofs.Common.{sym, subst}
use Rattle.blif_read.specs.View.{file_of}
use Rattle.plain_size.specs.Sizes.{AreMainCosts}
use Rattle.plain_size.proofs.SourceLemmas.{exact_main_costs}
use Rattle.plain_size.proofs.source.size_of_checked.Goals as goal

pub size_by_costs-requires-clause-costs : goal.size_by_costs-requires-clause-costs
size_by_costs-requires-clause-costs c =
    let file = file_of c.args.file.now in
    let library = c.args.s.now.library in
    subst (AreMainCosts file library) (sym c.deref.ensures.value) (exact_main_costs file library c.args.checked.now.costs.items c.requires.sound c.requires.checked.costs)
