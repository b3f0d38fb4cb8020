use Rattle.std.proofs.Common.{◌∙◌, ◌++◌, sym, ap, subst, List, Bool, [], append-nil}
use Rattle.std.specs.List.{flat_map}
use Rattle.netlist_spec.specs.Netlist.{Name}
use Rattle.netlist_spec.specs.Models.{data_inputs, latch_outputs}
use Rattle.netlist_spec.specs.Ordered.{cell_nets}
use Rattle.blif_read.specs.declared.file.Located.{Located}
use Rattle.blif_read.specs.View.{statement_of, model_of}
use Rattle.line_order.specs.Marks.{Marks, latch_output_of, cell_of}
use Rattle.line_order.proofs.MarkLemmas.{listed_as}
use Rattle.line_order.proofs.TableLemmas.{latches_named, cells_named}
use Rattle.line_order.proofs.tables.Tables.new.Goals as goal

pub returns : goal.returns
returns c =
    let m = c.args.m.now in
    let M = model_of m in
    let all = m.names in
    let first = data_inputs M in
    let known : Marks all c.mark_latches.new.self ((first ++ latch_outputs M) ++ []) =
    listed_as all c.mark_latches.new.self _ ((first ++ latch_outputs M) ++ [])
    (ap (λ (ns : List Name). first ++ ns) (ap (flat_map (λ (s : Located). latch_output_of (statement_of all s.what))) c.deref.ensures.value ∙ latches_named all m.statements.items) ∙ sym (append-nil (first ++ latch_outputs M)))
    (c.mark_latches.ensures.marked all first c.in_ok-known.ensures) in
    let sources : Marks all c.mark_cells.new.self (first ++ cell_nets M) =
    listed_as all c.mark_cells.new.self _ (first ++ cell_nets M)
    (ap (λ (ns : List Name). first ++ ns) (ap (flat_map (λ (s : Located). cell_of (statement_of all s.what))) c.deref-2.ensures.value ∙ cells_named all m.statements.items))
    (c.mark_cells.ensures.marked all first c.in_ok-sources.ensures) in
    record {
      known = subst (λ (l : List Bool). Marks all l ((first ++ latch_outputs M) ++ [])) (sym c.known.view_is) known;
      sources = subst (λ (l : List Bool). Marks all l (first ++ cell_nets M)) (sym c.sources.view_is) sources;
      declared = c.in_ok-declared.ensures;
      inputs = c.in_ok-new.ensures;
      outputs = c.in_ok-new-2.ensures;
      clocks = c.in_ok-new-3.ensures;
      cells = c.in_ok-new-4.ensures;
      first = c.first_clocking.ensures.first;
      control = c.first_clocking.ensures.ids;
    }
