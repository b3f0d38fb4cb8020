use Rattle.std.proofs.Common.{◌≡◌, refl, ◌∙◌, ap, arith, ◌+◌, ◌<◌, ◌≤◌, [], List, length, map, get_or, false}
use Rattle.std.specs.Prelude.{slice_range}
use Rattle.netlist_spec.specs.Covers.{cover_value}
use Rattle.blif_read.specs.View.{cover_of}
use Rattle.std.proofs.lemmas.List.{take_all}
use Rattle.imp_text.specs.declared.names.NameId.{NameId}
use Rattle.fault_sim.specs.declared.gates.GateCell.{GateCell}
use Rattle.fault_sim.specs.Gates.{NumberedGate, bit_in, numbered, put_gates}
use Rattle.fault_sim.proofs.GateLemmas.{put_one, put_more, same_long, cell_inside, cell_few, cell_table, cell_ins, cell_out}
use Rattle.fault_sim.proofs.gates.Gates.put.Goals as goal

-- where no cell is
abbrev none : GateCell
none = record { first = 0; out = record { 0 = 0 }; width = 0; table = [] }

pub overflow_add-end : goal.overflow_add-end
overflow_add-end c =
    let g = c.args.self.now in
    let i = cell_inside g.reads.items g.reads.items g.cells.items c.deref-cell-items.result.now g.covers.items c.loop-i.i none c.from.result c.requires.are_gates.each refl c.deref-cell-items.ensures.value c.loop-i-test.true c.from.ensures in
    omega arith

pub index-requires : goal.index-requires
index-requires c =
    let g = c.args.self.now in
    let l = same_long g.reads.items g.cells.items g.covers.items c.requires.are_gates.each in
    let e = ap length c.deref-cell-items.ensures.value in
    let k = g.covers.ok.0 in
    let t = c.loop-i-test.true in
    omega arith

pub offset_bounds-deref-cell : goal.offset_bounds-deref-cell
offset_bounds-deref-cell c =
    let g = c.args.self.now in
    let i = cell_inside g.reads.items g.reads.items g.cells.items c.deref-cell-items.result.now g.covers.items c.loop-i.i none c.from.result c.requires.are_gates.each refl c.deref-cell-items.ensures.value c.loop-i-test.true c.from.ensures in
    omega arith

pub slice_bounds-value_at-end : goal.slice_bounds-value_at-end
slice_bounds-value_at-end c =
    let g = c.args.self.now in
    let i = cell_inside g.reads.items g.reads.items g.cells.items c.deref-cell-items.result.now g.covers.items c.loop-i.i none c.from.result c.requires.are_gates.each refl c.deref-cell-items.ensures.value c.loop-i-test.true c.from.ensures in
    let e = ap length c.deref.ensures.value in
    omega arith

pub value_at-own-requires-clause-ins : goal.value_at-own-requires-clause-ins
value_at-own-requires-clause-ins c =
    let g = c.args.self.now in
    cell_ins g.reads.items c.deref.result.now g.cells.items c.deref-cell-items.result.now g.covers.items c.loop-i.i none c.from.result c.requires.are_gates.each c.deref.ensures.value c.deref-cell-items.ensures.value c.loop-i-test.true c.from.ensures
    (length c.args.row.now) (length c.loop-i.row) c.loop-i.auto.row c.requires.nets

pub value_at-own-requires-clause-few : goal.value_at-own-requires-clause-few
value_at-own-requires-clause-few c =
    let g = c.args.self.now in
    cell_few g.reads.items c.deref.result.now g.cells.items c.deref-cell-items.result.now g.covers.items c.loop-i.i none c.from.result c.requires.are_gates.each c.deref.ensures.value c.deref-cell-items.ensures.value c.loop-i-test.true c.from.ensures

pub value_at-own-requires-clause-table : goal.value_at-own-requires-clause-table
value_at-own-requires-clause-table c =
    let g = c.args.self.now in
    cell_table g.reads.items c.deref.result.now g.cells.items c.deref-cell-items.result.now g.covers.items c.loop-i.i none c.from.result c.requires.are_gates.each c.deref.ensures.value c.deref-cell-items.ensures.value c.loop-i-test.true c.from.ensures
    c.index.result.now c.index.ensures

pub shown-requires : goal.shown-requires
shown-requires c =
    let g = c.args.self.now in
    let o = cell_out g.reads.items g.reads.items g.cells.items c.deref-cell-items.result.now g.covers.items c.loop-i.i none c.from.result c.requires.are_gates.each refl c.deref-cell-items.ensures.value c.loop-i-test.true c.from.ensures
    (length c.args.row.now) c.requires.nets in
    let f = c.requires.forced in
    omega arith

pub bounds-row-cell : goal.bounds-row-cell
bounds-row-cell c =
    let g = c.args.self.now in
    let o = cell_out g.reads.items g.reads.items g.cells.items c.deref-cell-items.result.now g.covers.items c.loop-i.i none c.from.result c.requires.are_gates.each refl c.deref-cell-items.ensures.value c.loop-i-test.true c.from.ensures
    (length c.args.row.now) c.requires.nets in
    let e = c.loop-i.auto.row in
    omega arith

pub loop-i-preserved : goal.loop-i-preserved
loop-i-preserved c =
    let g = c.args.self.now in
    let i = c.loop-i.i in
    let forced = c.args.forced.now in
    let no_gate : NumberedGate = record { ins = []; out = record { 0 = 0 }; cover = record { on = false; rows = [] } } in
    let long = same_long g.reads.items g.cells.items g.covers.items c.requires.are_gates.each in
    let inside : i < length (numbered g) = omega (arith, c.loop-i-test.true, ap length c.deref-cell-items.ensures.value) in
    let cell = get_or c.deref-cell-items.result.now i none in
    let own : c.value_at-own.result ≡ cover_value (cover_of c.index.result.now) (map (bit_in c.loop-i.row) (slice_range g.reads.items cell.first (cell.first + c.from.result))) =
    c.value_at-own.ensures ∙ ap (λ (rs : List NameId). cover_value (cover_of c.index.result.now) (map (bit_in c.loop-i.row) (slice_range rs cell.first (cell.first + c.from.result)))) c.deref.ensures.value in
    put_one g.reads.items g.cells.items c.deref-cell-items.result.now g.covers.items i none c.index.result.now no_gate c.from.result forced c.loop-i.row c.value_at-own.result c.shown.result
    c.requires.are_gates.each c.deref-cell-items.ensures.value c.loop-i-test.true c.index.ensures c.from.ensures own c.shown.ensures
    ∙ put_more forced c.args.row.now c.loop-i.row (numbered g) i no_gate inside c.loop-i.invariant

pub returns : goal.returns
returns c =
    let g = c.args.self.now in
    let long = same_long g.reads.items g.cells.items g.covers.items c.requires.are_gates.each in
    let past : length (numbered g) ≤ c.loop-i.i = omega (arith, c.loop-i-test.false, ap length c.deref-cell-items.ensures.value) in
    c.loop-i.invariant ∙ ap (put_gates c.args.forced.now c.args.row.now) (take_all c.loop-i.i (numbered g) past)
