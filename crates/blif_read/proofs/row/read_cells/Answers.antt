use Rattle.std.proofs.Common.{get_or, ap, arith}
use Rattle.netlist_spec.specs.Reads.{care_bit, value_bit}
use Rattle.netlist_spec.specs.Said.{char_cell}
use Rattle.blif_read.proofs.RowLemmas.{cell-fits, cell-none, cell-one, other-char, small-care, small-value}
use Rattle.blif_read.proofs.row.read_cells.Goals as goal
use Rattle.blif_read.proofs.row.read_cells.Goals.{in-48, in-49, in_default}

pub overflow_add-care : goal.overflow_add-care
overflow_add-care c = omega (arith, cell-fits care_bit small-care c.args.cells.now c.loop-i.i c.loop-i.care c.requires c.loop-i-test.true c.loop-i.invariant.care)

pub overflow_add-care-in-49 : goal.overflow_add-care-in-49
overflow_add-care-in-49 c = omega (arith, cell-fits care_bit small-care c.args.cells.now c.loop-i.i c.loop-i.care c.requires c.loop-i-test.true c.loop-i.invariant.care)

pub overflow_add-value : goal.overflow_add-value
overflow_add-value c = omega (arith, cell-fits value_bit small-value c.args.cells.now c.loop-i.i c.loop-i.value c.requires c.loop-i-test.true c.loop-i.invariant.value)

pub loop-i-preserved : goal.loop-i-preserved
loop-i-preserved c =
    let cells = c.args.cells.now in
    let i = c.loop-i.i in
    let inside = c.loop-i-test.true in
    let care = c.loop-i.invariant.care in
    let value = c.loop-i.invariant.value in
    elim c.match-cell.branch [
      | in-48 w ↦
          let is = ap char_cell w.in-48.is in
          record {
            care = cell-one care_bit cells i c.loop-i.care c.match-cell.care c.requires inside care (ap care_bit is) w.care-is;
            value = cell-none value_bit cells i c.loop-i.value c.match-cell.value inside value (ap value_bit is) w.value-is;
          }
      | in-49 w ↦
          let is = ap char_cell w.in-49.is in
          record {
            care = cell-one care_bit cells i c.loop-i.care c.match-cell.care c.requires inside care (ap care_bit is) w.care-is;
            value = cell-one value_bit cells i c.loop-i.value c.match-cell.value c.requires inside value (ap value_bit is) w.value-is;
          }
      | in_default w ↦
          let is = other-char (get_or cells i 0) (omega arith) (omega arith) in
          record {
            care = cell-none care_bit cells i c.loop-i.care c.match-cell.care inside care (ap care_bit is) w.care-is;
            value = cell-none value_bit cells i c.loop-i.value c.match-cell.value inside value (ap value_bit is) w.value-is;
          }
    ]
