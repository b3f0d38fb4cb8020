use Rattle.std.proofs.Common.{◌≡◌, false, sym, arith}
use Rattle.std.proofs.lemmas.Grind.{common_steps}
use Rattle.blif_read.specs.Building.{numbered}
use Rattle.blif_read.specs.Kinds.{kind_in}
use Rattle.blif_read.specs.LineTests.{line_of}
use Rattle.blif_read.specs.Summaries.{is_model}
use Rattle.blif_read.proofs.BuildingLemmas.{more_of_model, says_no_model}
use Rattle.blif_read.proofs.models.FileSoFar.add_line.Goals as goal

pub returns-in_ok-add_line-clause-adds : goal.returns-in_ok-add_line-clause-adds
returns-in_ok-add_line-clause-adds c =
    let other : is_model (kind_in c.args.line.now.kind) ≡ false = grind (arith, common_steps) in
    λ lines is.
    more_of_model c.args.self.now.closed.items c.args.self.now.last c.in-Some.last c.add_line.new.self (numbered c.args.line.now) lines c.in-Some.is c.in_ok-add_line.ensures.adds
    (says_no_model (kind_in c.args.line.now.kind) (line_of c.args.line.now) (sym c.requires.fits.is_line.kind) other) is
