use Rattle.std.proofs.Common.{◌≡◌, ◌∙◌, sym, ap, subst, arith, List, length, map, filter_map, All}
use Rattle.std.specs.List.{AllByRecursion}
use Rattle.netlist_spec.specs.Netlist.{Name}
use Rattle.netlist_spec.specs.Reads.{IsNarrow}
use Rattle.imp_text.specs.declared.names.NameId.{NameId}
use Rattle.blif_read.specs.declared.file.Port.{Port}
use Rattle.blif_read.specs.declared.file.Located.{Located}
use Rattle.blif_read.specs.Ids.{IsIdOf}
use Rattle.blif_read.specs.View.{name_at, located_of, model_of}
use Rattle.line_order.proofs.MarkLemmas.{all_of}
use Rattle.fault_sim.specs.declared.row.LatchCell.{LatchCell}
use Rattle.fault_sim.specs.Build.{latch_of, gate_of, cell_of}
use Rattle.fault_sim.specs.Cells.{AreCells}
use Rattle.fault_sim.specs.Gates.{numbered}
use Rattle.fault_sim.specs.Simulated.{HasModel, IsSimulator, simulated}
use Rattle.fault_sim.proofs.BuildLemmas.{narrow_at, cells_within, cells_few, has_model, is_simulator}
use Rattle.fault_sim.proofs.CycleLemmas.{mapped_long}
use Rattle.fault_sim.proofs.build.build.Goals as goal

pub gate_cells-requires : goal.gate_cells-requires
gate_cells-requires c = λ k d h.
    let m = c.args.m.now in
    narrow_at m.names c.deref-2.result.now (subst (λ (ss : List Located). AllByRecursion (λ s. IsNarrow s.what) (map (located_of m.names) ss)) (sym c.deref-2.ensures.value) c.requires.limits.covers) k d h

pub cells_by_net-requires-clause-nets : goal.cells_by_net-requires-clause-nets
cells_by_net-requires-clause-nets c =
    let m = c.args.m.now in
    let cells : c.deref-5.result.now ≡ filter_map (λ (s : Located). cell_of s.what) m.statements.items =
    c.deref-5.ensures.value ∙ (c.in_ok-cells.ensures ∙ ap (filter_map (λ (s : Located). cell_of s.what)) c.deref-4.ensures.value) in
    subst (All (IsIdOf m.names)) (sym cells) (all_of (IsIdOf m.names) _ (cells_within m.names m.statements.items c.requires.ids.statements))

pub cells_by_net-requires-clause-few : goal.cells_by_net-requires-clause-few
cells_by_net-requires-clause-few c =
    let m = c.args.m.now in
    let cells : c.deref-5.result.now ≡ filter_map (λ (s : Located). cell_of s.what) m.statements.items =
    c.deref-5.ensures.value ∙ (c.in_ok-cells.ensures ∙ ap (filter_map (λ (s : Located). cell_of s.what)) c.deref-4.ensures.value) in
    let few = cells_few m.names m.statements.items in
    let long = ap length cells in
    let most = c.requires.few in
    omega arith

pub invariant_of-result : goal.invariant_of-result
invariant_of-result c =
    let m = c.args.m.now in
    let latches : c.in_ok-latches.latches.items ≡ filter_map (λ (s : Located). latch_of s.what) m.statements.items = c.in_ok-latches.ensures ∙ ap (filter_map (λ (s : Located). latch_of s.what)) c.deref.ensures.value in
    let gates : numbered c.in_ok-gates.gates ≡ filter_map (λ (s : Located). gate_of s.what) m.statements.items = c.in_ok-gates.ensures.gates ∙ ap (filter_map (λ (s : Located). gate_of s.what)) c.deref-2.ensures.value in
    let outputs : c.in_ok-outputs.outputs.items ≡ map (λ (p : Port). p.name) m.outputs.items = c.in_ok-outputs.ensures ∙ ap (map (λ (p : Port). p.name)) c.deref-3.ensures.value in
    let cells : c.in_ok-cells.cells.items ≡ filter_map (λ (s : Located). cell_of s.what) m.statements.items = c.in_ok-cells.ensures ∙ ap (filter_map (λ (s : Located). cell_of s.what)) c.deref-4.ensures.value in
    let numbers : AreCells m.names (map (name_at m.names) c.in_ok-cells.cells.items) c.in_ok-by_net.by_net.items =
    subst (λ (ids : List NameId). AreCells m.names (map (name_at m.names) ids) c.in_ok-by_net.by_net.items) c.deref-5.ensures.value c.in_ok-by_net.ensures in
    let stored : length c.in_ok-stored.stored.items ≡ length c.in_ok-latches.latches.items =
    ap length c.in_ok-stored.ensures ∙ (mapped_long (λ (l : LatchCell). l.init) c.deref-6.result.now ∙ ap length c.deref-6.ensures.value) in
    let row : length c.in_ok-row.row.items ≡ length m.names = let k = c.in_ok-row.row.ok.0 in let e = c.in_ok-row.ensures.len in let n = c.len-nets.ensures.count in omega arith in
    let forced : length c.in_ok-forced.forced.items ≡ length m.names = let k = c.in_ok-forced.forced.ok.0 in let e = c.in_ok-forced.ensures.len in let n = c.len-nets.ensures.count in omega arith in (
      c.in_ok-gates.ensures.are_gates,
      subst
          (λ (ns : List Name). IsSimulator ns c.in_ok-inputs.inputs.items c.in_ok-latches.latches.items (numbered c.in_ok-gates.gates) c.in_ok-outputs.outputs.items c.in_ok-cells.cells.items c.in_ok-by_net.by_net.items
          c.in_ok-stored.stored.items c.in_ok-row.row.items c.in_ok-forced.forced.items)
          (sym c.in_ok-names.ensures)
          (is_simulator m c.in_ok-inputs.inputs.items c.in_ok-latches.latches.items (numbered c.in_ok-gates.gates) c.in_ok-outputs.outputs.items c.in_ok-cells.cells.items c.in_ok-stored.stored.items latches gates outputs cells
          c.requires.ids c.len-nets.ensures.are_names.distinct c.requires.apart c.requires.few c.requires.limits c.in_ok-inputs.ensures.within c.in_ok-inputs.ensures.few
          c.in_ok-by_net.by_net.items c.in_ok-row.row.items c.in_ok-forced.forced.items numbers stored row forced),
    )

pub returns-clause-model : goal.returns-clause-model
returns-clause-model c =
    let m = c.args.m.now in
    let latches : c.in_ok-latches.latches.items ≡ filter_map (λ (s : Located). latch_of s.what) m.statements.items = c.in_ok-latches.ensures ∙ ap (filter_map (λ (s : Located). latch_of s.what)) c.deref.ensures.value in
    let gates : numbered c.in_ok-gates.gates ≡ filter_map (λ (s : Located). gate_of s.what) m.statements.items = c.in_ok-gates.ensures.gates ∙ ap (filter_map (λ (s : Located). gate_of s.what)) c.deref-2.ensures.value in
    let outputs : c.in_ok-outputs.outputs.items ≡ map (λ (p : Port). p.name) m.outputs.items = c.in_ok-outputs.ensures ∙ ap (map (λ (p : Port). p.name)) c.deref-3.ensures.value in
    let cells : c.in_ok-cells.cells.items ≡ filter_map (λ (s : Located). cell_of s.what) m.statements.items = c.in_ok-cells.ensures ∙ ap (filter_map (λ (s : Located). cell_of s.what)) c.deref-4.ensures.value in
    subst
    (λ (ns : List Name). HasModel (model_of m) (simulated ns c.in_ok-inputs.inputs.items c.in_ok-latches.latches.items (numbered c.in_ok-gates.gates) c.in_ok-outputs.outputs.items c.in_ok-cells.cells.items c.in_ok-stored.stored.items))
    (sym c.in_ok-names.ensures)
    (has_model m c.in_ok-inputs.inputs.items c.in_ok-latches.latches.items (numbered c.in_ok-gates.gates) c.in_ok-outputs.outputs.items c.in_ok-cells.cells.items c.in_ok-stored.stored.items latches gates outputs cells c.in_ok-inputs.ensures.names)

pub returns-clause-starts : goal.returns-clause-starts
returns-clause-starts c = c.in_ok-stored.ensures ∙ ap (map (λ (l : LatchCell). l.init)) c.deref-6.ensures.value
