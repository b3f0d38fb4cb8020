-- The places so far as numbers.
use Rattle.std.proofs.Common.{◌≡◌, map, take}
use Rattle.netlist_spec.specs.Reads.{care_bit, value_bit, number_by}
use Rattle.netlist_spec.specs.Said.{char_cell}
use Rattle.blif_read.proofs.row.read_cells.Given as goal

abbrev pub invariant-loop-i : goal.invariant-loop-i
invariant-loop-i l =
    record {
      care : l.care ≡ number_by care_bit (map char_cell (take l.i l.cells));
      value : l.value ≡ number_by value_bit (map char_cell (take l.i l.cells));
    }
