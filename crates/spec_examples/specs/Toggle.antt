-- The smallest guards: of a register of one bit that turns in each cycle and is shown.
use Rattle.std.specs.Prelude.{true, false, List, [], ◌∷◌, codes}
use Rattle.netlist_spec.specs.Gates.{one, two, Machine, NetFault}
use Rattle.guard_spec.specs.Codes.{Code}
use Rattle.netlist_spec.specs.CellBits.{latch_bit, output_bit}
use Rattle.netlist_spec.specs.Netlist.{plain, File}
use Rattle.netlist_spec.specs.Written.{Named, given, store, next, check, rail, inner, file_of}
use Rattle.guard_spec.specs.Regions.{Guarded}

-- the register as a machine of one gate
abbrev pub toggle : Machine
toggle = record {
  net = record { leaves = 1; gates = one true 0 ∷ [] };
  inputs = 0;
  latches = record { d = 1; init = false } ∷ [];
  outputs = 0 ∷ [];
}

-- Two latches, a cell for each D net, for the output and for the check output, and two rails of three cells.
abbrev pub toggle_guard : Guarded
toggle_guard = record {
  machine = record {
    net = record {
      leaves = 2;
      gates = one true 0 ∷ one true 0 ∷ one false 0 ∷ one false 0 ∷ two 6 0 1 ∷ two 6 4 5 ∷ two 14 6 7 ∷ two 6 0 1 ∷ two 6 4 5 ∷ two 14 9 10 ∷ [];
    };
    inputs = 0;
    latches = record { d = 2; init = false } ∷ record { d = 3; init = false } ∷ [];
    outputs = 4 ∷ 5 ∷ 8 ∷ 11 ∷ [];
  };
  rails = 2;
  regions =
      record { bit = latch_bit 0; first = 2; end = 3 }
      ∷ record { bit = latch_bit 1; first = 3; end = 4 }
      ∷ record { bit = output_bit 0; first = 4; end = 5 }
      ∷ record { bit = output_bit 1; first = 5; end = 6 }
      ∷ record { bit = output_bit 2; first = 6; end = 9 }
      ∷ record { bit = output_bit 3; first = 9; end = 12 }
      ∷ [];
}

-- the D net of the first latch gives 0 in cycle 0
abbrev pub one_fault : List NetFault
one_fault = record { cycle = 0; cell = 2; bit = false } ∷ []

-- the bit three times
abbrev pub thrice_code : Code
thrice_code = record { columns = 2; rows = (true ∷ true ∷ []) ∷ [] }

-- The smallest guard that corrects: three latches, and for each of them and of the three outputs the majority of the
-- latches in cells of its own.
abbrev pub toggle_corrector : Guarded
toggle_corrector = record {
  machine = record {
    net = record {
      leaves = 3;
      gates = two 8 0 1 ∷ two 14 0 1 ∷ two 8 2 4 ∷ two 14 3 5 ∷ one true 6 ∷ two 8 0 1 ∷ two 14 0 1 ∷ two 8 2 9 ∷ two 14 8 10 ∷ one true 11 ∷ two 8 0 1 ∷ two 14 0 1 ∷ two 8 2 14 ∷ two 14 13 15 ∷ one true 16 ∷ two 8 0 1 ∷ two 14 0 1 ∷ two 8 2 19 ∷ two 14 18 20 ∷ two 8 0 1 ∷ two 14 0 1 ∷ two 8 2 23 ∷ two 14 22 24 ∷ two 8 0 1 ∷ two 14 0 1 ∷ two 8 2 27 ∷ two 14 26 28 ∷ [];
    };
    inputs = 0;
    latches = record { d = 7; init = false } ∷ record { d = 12; init = false } ∷ record { d = 17; init = false } ∷ [];
    outputs = 21 ∷ 25 ∷ 29 ∷ [];
  };
  rails = 0;
  regions =
      record { bit = latch_bit 0; first = 3; end = 8 }
      ∷ record { bit = latch_bit 1; first = 8; end = 13 }
      ∷ record { bit = latch_bit 2; first = 13; end = 18 }
      ∷ record { bit = output_bit 0; first = 18; end = 22 }
      ∷ record { bit = output_bit 1; first = 22; end = 26 }
      ∷ record { bit = output_bit 2; first = 26; end = 30 }
      ∷ [];
}

-- The smallest guard that detects faults that move: three latches, a cell for each D net, output and check output, and
-- two rails of seven cells.
abbrev pub thrice_guard : Guarded
thrice_guard = record {
  machine = record {
    net = record {
      leaves = 3;
      gates = one true 0 ∷ one true 0 ∷ one true 0 ∷ one false 0 ∷ one false 0 ∷ one false 0 ∷ two 6 0 1 ∷ two 6 0 2 ∷ two 14 9 10 ∷ two 6 6 7 ∷ two 6 6 8 ∷ two 14 12 13 ∷ two 14 11 14 ∷ two 6 0 1 ∷ two 6 0 2 ∷ two 14 16 17 ∷ two 6 6 7 ∷ two 6 6 8 ∷ two 14 19 20 ∷ two 14 18 21 ∷ [];
    };
    inputs = 0;
    latches = record { d = 3; init = false } ∷ record { d = 4; init = false } ∷ record { d = 5; init = false } ∷ [];
    outputs = 6 ∷ 7 ∷ 8 ∷ 15 ∷ 22 ∷ [];
  };
  rails = 2;
  regions =
      record { bit = latch_bit 0; first = 3; end = 4 }
      ∷ record { bit = latch_bit 1; first = 4; end = 5 }
      ∷ record { bit = latch_bit 2; first = 5; end = 6 }
      ∷ record { bit = output_bit 0; first = 6; end = 7 }
      ∷ record { bit = output_bit 1; first = 7; end = 8 }
      ∷ record { bit = output_bit 2; first = 8; end = 9 }
      ∷ record { bit = output_bit 3; first = 9; end = 16 }
      ∷ record { bit = output_bit 4; first = 16; end = 23 }
      ∷ [];
}

-- the D net of the first latch gives 0 in cycle 0, and the second latch shows 0 in cycle 1
abbrev pub moving_faults : List NetFault
moving_faults = record { cycle = 0; cell = 3; bit = false } ∷ record { cycle = 1; cell = 1; bit = false } ∷ []

-- the first latch shows 1 in cycle 0, and the second output gives 0 in cycle 1
abbrev pub two_faults : List NetFault
two_faults = record { cycle = 0; cell = 0; bit = true } ∷ record { cycle = 1; cell = 25; bit = false } ∷ []

-- the guard that detects, with the names of its nets
abbrev pub toggle_named : Named
toggle_named = record {
  model = codes "inv";
  unknown_inits = 0;
  inputs = [];
  clocks = [];
  outputs = toggle_guard.machine.outputs;
  clocking = plain;
  net = toggle_guard.machine.net;
  labels = store 0 0 ∷ store 0 1 ∷ next 0 0 ∷ next 0 1 ∷ given (codes "q") ∷ check 0 0 ∷ inner 0 ∷ inner 1 ∷ rail 0 ∷ inner 2 ∷ inner 3 ∷ rail 1 ∷ [];
  latches = toggle_guard.machine.latches;
  data_inputs = 0;
}

abbrev pub toggle_text : File
toggle_text = file_of toggle_named
