use Rattle.std.proofs.Common.{◌≡◌, ◌<◌, sym, ap, ◌∙◌, arith, subst, length}
use Rattle.netlist_spec.specs.Statements.{Said}
use Rattle.netlist_spec.specs.Said.{said_of, row_said}
use Rattle.netlist_spec.specs.ReadFaults.{kind_of, row_kind}
use Rattle.blif_read.specs.Building.{AddsRow, IsRowLine}
use Rattle.blif_read.specs.Kinds.{kind_in}
use Rattle.blif_read.specs.LineTests.{words_in, line_of}
use Rattle.blif_read.proofs.BuildingLemmas.{row_more, row_is_said, said_row}
use Rattle.std.proofs.lemmas.List.{length-map}
use Rattle.blif_read.proofs.model.ModelSoFar.add_row.Goals as goal

pub returns-in_ok-add_row-clause-adds : goal.returns-in_ok-add_row-clause-adds
returns-in_ok-add_row-clause-adds c =
    let l = c.args.line.now in
    let is_row : kind_of (line_of l) ≡ row_kind = sym c.requires.fits.is_line.kind ∙ ap kind_in c.requires.kind in
    let said : said_of (line_of l) ≡ row_said (words_in l.words.now) = row_is_said (line_of l) is_row in
    let some : 0 < length (words_in l.words.now) = omega (arith, c.requires.fits.is_line.some, length-map l.words.now (λ w. w.now)) in
    let adds : AddsRow c.in-Some.last.cover (said_of (line_of l)) c.add_row.new.self.cover
    = subst (λ (s : Said). AddsRow c.in-Some.last.cover s c.add_row.new.self.cover) (sym said) c.in_ok-add_row.ensures.cover in
    let row : IsRowLine (l.number, said_of (line_of l)) = subst (λ (s : Said). IsRowLine (l.number, s)) (sym said) (said_row l.number (words_in l.words.now) some) in
    λ n name lines is.
    row_more c.args.self.now.model c.args.self.now.cover c.in-Some.last c.add_row.new.self n name lines l.number (said_of (line_of l)) c.in-Some.is
    c.in_ok-add_row.ensures.line c.in_ok-add_row.ensures.ins c.in_ok-add_row.ensures.out adds row is
