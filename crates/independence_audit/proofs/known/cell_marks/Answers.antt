use Rattle.std.proofs.Common.{◌∙◌, ap, []}
use Rattle.std.specs.List.{flat_map}
use Rattle.blif_read.specs.declared.file.Located.{Located}
use Rattle.blif_read.specs.View.{statement_of}
use Rattle.line_order.specs.Marks.{cell_of}
use Rattle.line_order.proofs.MarkLemmas.{listed_as}
use Rattle.line_order.proofs.TableLemmas.{cells_named}
use Rattle.independence_audit.proofs.known.cell_marks.Goals as goal

pub returns : goal.returns
returns c =
    let m = c.args.m.now in
    listed_as m.names c.mark_cells.new.self _ _ (ap (flat_map (λ (s : Located). cell_of (statement_of m.names s.what))) c.deref.ensures.value ∙ cells_named m.names m.statements.items) (c.mark_cells.ensures.marked m.names [] c.in_ok-cells.ensures)
