-- The guard of a source without outputs: of a register of one bit that turns in each cycle.
use Rattle.std.specs.Prelude.{true, false, [], ◌∷◌}
use Rattle.netlist_spec.specs.Gates.{one, two, Machine}
use Rattle.guard_spec.specs.Words.{Layout}
use Rattle.netlist_spec.specs.CellBits.{latch_bit, output_bit}
use Rattle.guard_spec.specs.Regions.{Guarded}

abbrev pub unshown : Machine
unshown = record {
  net = record { leaves = 1; gates = one true 0 ∷ [] };
  inputs = 0;
  latches = record { d = 1; init = false } ∷ [];
  outputs = [];
}

abbrev pub unshown_layout : Layout
unshown_layout = record { state = (0 ∷ []) ∷ []; output = [] }

-- The rails are all that the guard shows. Each compares the two latches.
abbrev pub unshown_guard : Guarded
unshown_guard = record {
  machine = record {
    net = record { leaves = 2; gates = one true 0 ∷ one true 0 ∷ two 6 0 1 ∷ two 6 0 1 ∷ [] };
    inputs = 0;
    latches = record { d = 2; init = false } ∷ record { d = 3; init = false } ∷ [];
    outputs = 4 ∷ 5 ∷ [];
  };
  rails = 2;
  regions =
      record { bit = latch_bit 0; first = 2; end = 3 }
      ∷ record { bit = latch_bit 1; first = 3; end = 4 }
      ∷ record { bit = output_bit 0; first = 4; end = 5 }
      ∷ record { bit = output_bit 1; first = 5; end = 6 }
      ∷ [];
}
