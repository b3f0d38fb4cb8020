-- Small guards that are wrong.
use Rattle.std.specs.Prelude.{true, false, List, [], ◌∷◌, ◌++◌, codes}
use Rattle.netlist_spec.specs.Gates.{GateForm, constant, one, two, Machine}
use Rattle.guard_spec.specs.Words.{Layout}
use Rattle.netlist_spec.specs.CellBits.{latch_bit, output_bit}
use Rattle.guard_spec.specs.Regions.{Guarded}
use Rattle.netlist_spec.specs.Netlist.{File}
use Rattle.netlist_spec.specs.Written.{given, store, next, check, rail, inner, file_of}
use Rattle.spec_examples.specs.Toggle.{toggle_named}

-- A guard of the wire that shows a copy of the data input in place of the input.
abbrev pub copying_guard : Guarded
copying_guard = record {
  machine = record {
    net = record { leaves = 1; gates = one false 0 ∷ one false 0 ∷ two 6 1 2 ∷ two 6 1 2 ∷ [] };
    inputs = 1;
    latches = [];
    outputs = 1 ∷ 2 ∷ 3 ∷ 4 ∷ [];
  };
  rails = 2;
  regions =
      record { bit = output_bit 0; first = 1; end = 2 }
      ∷ record { bit = output_bit 1; first = 2; end = 3 }
      ∷ record { bit = output_bit 2; first = 3; end = 4 }
      ∷ record { bit = output_bit 3; first = 4; end = 5 }
      ∷ [];
}

-- Two registers that both store the turned bit of the first, each in a word of its own.
abbrev pub pair : Machine
pair = record {
  net = record { leaves = 2; gates = one true 0 ∷ [] };
  inputs = 0;
  latches = record { d = 2; init = false } ∷ record { d = 2; init = false } ∷ [];
  outputs = [];
}

abbrev pub pair_layout : Layout
pair_layout = record { state = (0 ∷ []) ∷ (1 ∷ []) ∷ []; output = [] }

-- The data bit of the second register is a copy of that of the first, so it shares its gate.
abbrev pub sharing_guard : Guarded
sharing_guard = record {
  machine = record {
    net = record { leaves = 4; gates = one true 0 ∷ one true 0 ∷ one false 4 ∷ one true 0 ∷ [] };
    inputs = 0;
    latches = record { d = 4; init = false } ∷ record { d = 5; init = false } ∷ record { d = 6; init = false } ∷ record { d = 7; init = false } ∷ [];
    outputs = [];
  };
  rails = 0;
  regions =
      record { bit = latch_bit 0; first = 4; end = 5 }
      ∷ record { bit = latch_bit 1; first = 5; end = 6 }
      ∷ record { bit = latch_bit 2; first = 6; end = 7 }
      ∷ record { bit = latch_bit 3; first = 7; end = 8 }
      ∷ [];
}

-- The guards of the register that turns its bit: the gates of the four bits, and the three gates of each rail, are given.
abbrev pub toggle_by : List GateForm → List GateForm → List GateForm → Guarded
toggle_by bits some_rail other_rail = record {
  machine = record {
    net = record { leaves = 2; gates = bits ++ some_rail ++ other_rail };
    inputs = 0;
    latches = record { d = 2; init = false } ∷ record { d = 3; init = false } ∷ [];
    outputs = 4 ∷ 5 ∷ 8 ∷ 11 ∷ [];
  };
  rails = 2;
  regions =
      record { bit = latch_bit 0; first = 2; end = 3 }
      ∷ record { bit = latch_bit 1; first = 3; end = 4 }
      ∷ record { bit = output_bit 0; first = 4; end = 5 }
      ∷ record { bit = output_bit 1; first = 5; end = 6 }
      ∷ record { bit = output_bit 2; first = 6; end = 9 }
      ∷ record { bit = output_bit 3; first = 9; end = 12 }
      ∷ [];
}

abbrev pub right_bits : List GateForm
right_bits = one true 0 ∷ one true 0 ∷ one false 0 ∷ one false 0 ∷ []

abbrev pub right_rail : List GateForm
right_rail = two 6 0 1 ∷ two 6 4 5 ∷ two 14 6 7 ∷ []

abbrev pub other_right_rail : List GateForm
other_right_rail = two 6 0 1 ∷ two 6 4 5 ∷ two 14 9 10 ∷ []

-- the check bit is taken from the freshly computed data net
abbrev pub fresh_guard : Guarded
fresh_guard = toggle_by (one true 0 ∷ one false 2 ∷ one false 0 ∷ one false 0 ∷ []) right_rail other_right_rail

-- the check output shows the check latch, which is right as long as nothing is faulty
abbrev pub checking_guard : Guarded
checking_guard = toggle_by (one true 0 ∷ one true 0 ∷ one false 0 ∷ one false 1 ∷ []) right_rail other_right_rail

-- a rail watches the nets that the latches store, and not what the latches show
abbrev pub early_guard : Guarded
early_guard = toggle_by right_bits (two 6 2 3 ∷ two 6 4 5 ∷ two 14 6 7 ∷ []) other_right_rail

-- a rail doesn't watch the output words
abbrev pub blind_guard : Guarded
blind_guard = toggle_by right_bits (two 6 0 1 ∷ constant false ∷ two 14 6 7 ∷ []) other_right_rail

-- one rail is always 0
abbrev pub silent_guard : Guarded
silent_guard = toggle_by right_bits right_rail (two 6 0 1 ∷ two 6 4 5 ∷ constant false ∷ [])

-- one rail is always 1
abbrev pub loud_guard : Guarded
loud_guard = toggle_by right_bits (two 6 0 1 ∷ two 6 4 5 ∷ constant true ∷ []) other_right_rail

-- a rail compares the output word itself, and takes the gate for the state word from the other rail
abbrev pub sharing_rails : Guarded
sharing_rails = toggle_by right_bits right_rail (two 6 4 5 ∷ one false 9 ∷ two 14 6 10 ∷ [])

-- a rail is a copy of the other one
abbrev pub copied_rail : Guarded
copied_rail = toggle_by right_bits right_rail (one false 8 ∷ one false 9 ∷ one false 10 ∷ [])

-- The text has one rail where a bound of 1 asks for two.
abbrev pub one_rail_text : File
one_rail_text = file_of record toggle_named {
  outputs = 4 ∷ 5 ∷ 8 ∷ [];
  net = record { leaves = 2; gates = right_bits ++ right_rail };
  labels = store 0 0 ∷ store 0 1 ∷ next 0 0 ∷ next 0 1 ∷ given (codes "q") ∷ check 0 0 ∷ inner 0 ∷ inner 1 ∷ rail 0 ∷ [];
}

-- One corrector, of the gates 3 to 6, for all bits of the word.
abbrev pub sharing_corrector : Guarded
sharing_corrector = record {
  machine = record {
    net = record { leaves = 3; gates = two 8 0 1 ∷ two 14 0 1 ∷ two 8 2 4 ∷ two 14 3 5 ∷ one true 6 ∷ one true 6 ∷ one true 6 ∷ one false 6 ∷ one false 6 ∷ one false 6 ∷ [] };
    inputs = 0;
    latches = record { d = 7; init = false } ∷ record { d = 8; init = false } ∷ record { d = 9; init = false } ∷ [];
    outputs = 10 ∷ 11 ∷ 12 ∷ [];
  };
  rails = 0;
  regions =
      record { bit = latch_bit 0; first = 3; end = 8 }
      ∷ record { bit = latch_bit 1; first = 8; end = 9 }
      ∷ record { bit = latch_bit 2; first = 9; end = 10 }
      ∷ record { bit = output_bit 0; first = 10; end = 11 }
      ∷ record { bit = output_bit 1; first = 11; end = 12 }
      ∷ record { bit = output_bit 2; first = 12; end = 13 }
      ∷ [];
}

-- a register that starts at 1, and a guard whose check latch starts at 0
abbrev pub set_toggle : Machine
set_toggle = record {
  net = record { leaves = 1; gates = one true 0 ∷ [] };
  inputs = 0;
  latches = record { d = 1; init = true } ∷ [];
  outputs = 0 ∷ [];
}

abbrev pub unset_guard : Guarded
unset_guard = record {
  machine = record {
    net = record { leaves = 2; gates = right_bits ++ right_rail ++ other_right_rail };
    inputs = 0;
    latches = record { d = 2; init = true } ∷ record { d = 3; init = false } ∷ [];
    outputs = 4 ∷ 5 ∷ 8 ∷ 11 ∷ [];
  };
  rails = 2;
  regions = loud_guard.regions;
}
