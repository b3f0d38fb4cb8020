-- The guard of a source whose one output is its data input.
use Rattle.std.specs.Prelude.{false, [], ◌∷◌}
use Rattle.netlist_spec.specs.Gates.{one, two, Machine}
use Rattle.guard_spec.specs.Words.{Layout}
use Rattle.netlist_spec.specs.CellBits.{output_bit}
use Rattle.guard_spec.specs.Regions.{Guarded}

abbrev pub wire : Machine
wire = record { net = record { leaves = 1; gates = [] }; inputs = 1; latches = []; outputs = 0 ∷ [] }

abbrev pub wire_layout : Layout
wire_layout = record { state = []; output = (0 ∷ []) ∷ [] }

-- The output is the input and no cell. The check output is a copy, and each rail compares the two.
abbrev pub wire_guard : Guarded
wire_guard = record {
  machine = record {
    net = record { leaves = 1; gates = one false 0 ∷ two 6 0 1 ∷ two 6 0 1 ∷ [] };
    inputs = 1;
    latches = [];
    outputs = 0 ∷ 1 ∷ 2 ∷ 3 ∷ [];
  };
  rails = 2;
  regions =
      record { bit = output_bit 1; first = 1; end = 2 }
      ∷ record { bit = output_bit 2; first = 2; end = 3 }
      ∷ record { bit = output_bit 3; first = 3; end = 4 }
      ∷ [];
}
