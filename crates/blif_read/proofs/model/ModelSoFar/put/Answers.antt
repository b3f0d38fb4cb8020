use Rattle.std.proofs.Common.{refl, Some, sym, subst}
use Rattle.blif_read.specs.declared.file.Statement.{Statement}
use Rattle.blif_read.specs.declared.model.OpenCover.{OpenCover}
use Rattle.blif_read.specs.Building.{PutsStatement}
use Rattle.blif_read.proofs.BuildingLemmas.{put_names, put_other}
use Rattle.blif_read.proofs.model.ModelSoFar.put.Goals as goal

pub returns-in-Names-clause-puts : goal.returns-in-Names-clause-puts
returns-in-Names-clause-puts c =
    let old = c.args.self.now.model.statements.items in
    let new : OpenCover = record { line = c.args.line; ins = c.in-Names.ins; out = c.in-Names.out; cover = c.in-Names.cover } in
    subst (λ (w : Statement). PutsStatement old c.args.line w old (Some new)) (sym c.in-Names.is) (put_names old new)

pub returns-in_ok-push-in_default : goal.returns-in_ok-push-in_default
returns-in_ok-push-in_default c =
    let old = c.args.self.now.model.statements.items in
    let both = put_other old c.push.new.self.items c.args.line c.args.what c.args.self.now.cover c.in_default.not-Names c.requires c.in_ok-push-in_default.ensures.items in
    record { puts = both.0; cover = both.1; model = refl }
