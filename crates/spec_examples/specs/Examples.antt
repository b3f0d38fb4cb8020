-- Small texts and files on which the definitions are computed.
use Rattle.std.specs.Prelude.{ℕ, suc, ◌+◌, ◌*◌, ◌==◌, Bool, List, [], ◌∷◌, ◌++◌, map, codes, replicate, true, false, Some, None}
use Rattle.std.specs.List.{range_with_len}
use Rattle.netlist_spec.specs.SourceRun.{Bits}
use Rattle.netlist_spec.specs.Netlist.{Name, Cover, plain, edge, Bind, names, latch, subckt, Port, Located, Model, File, Statement}
use Rattle.netlist_spec.specs.Covers.{Library}
use Rattle.guard_spec.specs.Codes.{Code, detect}
use Rattle.guard_spec.specs.Words.{Settings, Layout}
use Rattle.netlist_spec.specs.Gates.{one, Machine}
use Rattle.netlist_spec.specs.Written.{Named, given, inner}
use Rattle.netlist_spec.specs.Elaborated.{Elaborated}
use Rattle.guard_spec.specs.Codes.{hamming_code}

abbrev pub empty_text : List ℕ
empty_text = codes ".model e\n.end\n"

abbrev pub empty_model : Model
empty_model =
    record {
      name = codes "e";
      line = 1;
      names = [];
      inputs = [];
      outputs = [];
      clocks = [];
      statements = [];
    }

abbrev pub empty_file : File
empty_file = record { models = empty_model ∷ [] }

-- a register that turns its bit in each cycle
abbrev pub inverter_text : List ℕ
inverter_text = codes ".model inv # one bit\n.outputs \\\n q\n\n.latch n q 0\n.names q n\n0 1\n"

abbrev pub inverter_cover : Cover
inverter_cover = record { on = true; rows = record { care = 1; value = 0 } ∷ [] }

abbrev pub inverter_model : Model
inverter_model =
    record {
      name = codes "inv";
      line = 1;
      names = codes "q" ∷ codes "n" ∷ [];
      inputs = [];
      outputs = record { name = codes "q"; line = 2 } ∷ [];
      clocks = [];
      statements =
          record { line = 5; what = latch (codes "n") (codes "q") plain (Some 0) }
          ∷ record { line = 6; what = names (codes "q" ∷ []) (codes "n") inverter_cover }
          ∷ [];
    }

abbrev pub inverter_file : File
inverter_file = record { models = inverter_model ∷ [] }

abbrev pub empty_written : List ℕ
empty_written = codes "# unknown inits 0\n.model e\n.end\n"

abbrev pub inverter_written : List ℕ
inverter_written = codes "# unknown inits 0\n.model inv\n.outputs q\n.latch n q 0\n.names q n\n0 1\n.end\n"

-- y reads m, which stands on a later line
abbrev pub backward_model : Model
backward_model =
    record {
      name = codes "r";
      line = 1;
      names = codes "a" ∷ codes "y" ∷ codes "m" ∷ [];
      inputs = record { name = codes "a"; line = 2 } ∷ [];
      outputs = record { name = codes "y"; line = 3 } ∷ [];
      clocks = [];
      statements =
          record { line = 4; what = names (codes "m" ∷ []) (codes "y") inverter_cover }
          ∷ record { line = 6; what = names (codes "a" ∷ []) (codes "m") inverter_cover }
          ∷ [];
    }

abbrev pub backward_file : File
backward_file = record { models = backward_model ∷ [] }

-- lines that end with CR and LF, and a line that goes on with the next one
abbrev pub joined_text : List ℕ
joined_text = codes ".model m\r\n.inputs a \\\n b\n.names a b y # and\n11 1 # row"

-- a model with a line of one name of 256 bytes
abbrev pub long_name_text : List ℕ
long_name_text = codes ".model m\n.inputs " ++ replicate 256 97

-- a model with a cover of 17 inputs
abbrev pub wide_cover_text : List ℕ
wide_cover_text = codes ".model m\n.names a b c d e f g h i j k l m n o p q y"

-- settings with an S-box and a linear layer
abbrev pub settings_text : List ℕ
settings_text =
    codes "mode = \"detect\"\nbound = 3\ncheck = [\"0111\", \"1011\", \"1101\", \"1110\"]\n[sbox.half]\ninputs = 1\noutputs = 1\nvalues = [1, 0]\n[linear.mix]\nrows = [\"110\", \"011\"]\n"

abbrev pub settings_read : Settings
settings_read =
    record {
      mode = detect;
      bound = 3;
      code = hamming_code;
      state_words = None;
      output_words = None;
      library = record {
        tables = record { name = codes "half"; table = record { ins = 1; outs = 1; rows = 1 ∷ 0 ∷ [] } } ∷ [];
        linears = record { name = codes "mix"; layer = record { rows = 3 ∷ 6 ∷ []; width = 3 } } ∷ [];
      };
    }

abbrev pub buffer_cover : Cover
buffer_cover = record { on = true; rows = record { care = 1; value = 1 } ∷ [] }

-- two cells that read each other
abbrev pub ring_model : Model
ring_model =
    record {
      name = codes "l";
      line = 1;
      names = codes "p" ∷ codes "q" ∷ [];
      inputs = [];
      outputs = record { name = codes "p"; line = 2 } ∷ [];
      clocks = [];
      statements =
          record { line = 3; what = names (codes "q" ∷ []) (codes "p") buffer_cover }
          ∷ record { line = 5; what = names (codes "p" ∷ []) (codes "q") buffer_cover }
          ∷ [];
    }

abbrev pub ring_file : File
ring_file = record { models = ring_model ∷ [] }

-- a code of one data place and one check place
abbrev pub parity_code : Code
parity_code = record { columns = 1; rows = (true ∷ []) ∷ [] }

abbrev pub parity_settings : Settings
parity_settings =
    record {
      mode = detect;
      bound = 1;
      code = parity_code;
      state_words = None;
      output_words = None;
      library = record { tables = []; linears = [] };
    }

abbrev pub inverter_layout : Layout
inverter_layout = record { state = (0 ∷ []) ∷ []; output = (0 ∷ []) ∷ [] }

abbrev pub both_cover : Cover
both_cover = record { on = true; rows = record { care = 3; value = 3 } ∷ [] }

-- Two latches and two cells. The D net of latch b is given: where it is that of latch a too, they share a cell.
abbrev pub two_latches : Name → Model
two_latches d =
    record {
      name = codes "h";
      line = 1;
      names = codes "x" ∷ codes "y" ∷ codes "n" ∷ codes "a" ∷ codes "b" ∷ [];
      inputs = record { name = codes "x"; line = 2 } ∷ [];
      outputs = record { name = codes "y"; line = 3 } ∷ [];
      clocks = [];
      statements =
          record { line = 4; what = latch (codes "n") (codes "a") plain (Some 0) }
          ∷ record { line = 5; what = latch d (codes "b") plain (Some 0) }
          ∷ record { line = 6; what = names (codes "x" ∷ []) (codes "n") buffer_cover }
          ∷ record { line = 8; what = names (codes "a" ∷ codes "b" ∷ []) (codes "y") both_cover }
          ∷ [];
    }

-- the code of three check places, and the one word of a counter of four bits
abbrev pub hamming_three : Code
hamming_three =
    record {
      columns = 3;
      rows = (false ∷ true ∷ true ∷ []) ∷ (true ∷ false ∷ true ∷ []) ∷ (true ∷ true ∷ false ∷ []) ∷ (true ∷ true ∷ true ∷ []) ∷ [];
    }

abbrev pub counter_layout : Layout
counter_layout = record { state = (0 ∷ 1 ∷ 2 ∷ 3 ∷ []) ∷ []; output = (0 ∷ 1 ∷ 2 ∷ 3 ∷ []) ∷ [] }

-- the outputs of the counter in six cycles, and of a guard of it with one wrong output bit in cycle 3
abbrev pub counted : List Bits
counted = (false ∷ false ∷ false ∷ false ∷ []) ∷ (true ∷ false ∷ false ∷ false ∷ []) ∷ (false ∷ true ∷ false ∷ false ∷ []) ∷ (true ∷ true ∷ false ∷ false ∷ []) ∷ (false ∷ false ∷ true ∷ false ∷ []) ∷ (true ∷ false ∷ true ∷ false ∷ []) ∷ []

abbrev pub counted_with_fault : List Bits
counted_with_fault = (false ∷ false ∷ false ∷ false ∷ false ∷ false ∷ false ∷ []) ∷ (true ∷ false ∷ false ∷ false ∷ false ∷ true ∷ true ∷ []) ∷ (false ∷ true ∷ false ∷ false ∷ true ∷ false ∷ true ∷ []) ∷ (false ∷ true ∷ false ∷ false ∷ true ∷ true ∷ false ∷ []) ∷ (false ∷ false ∷ true ∷ false ∷ true ∷ true ∷ false ∷ []) ∷ (true ∷ false ∷ true ∷ false ∷ true ∷ false ∷ true ∷ []) ∷ []

-- a code of distance 1
abbrev pub weak_code : Code
weak_code = record { columns = 3; rows = (false ∷ false ∷ false ∷ []) ∷ (false ∷ true ∷ true ∷ []) ∷ [] }

-- the same settings with words that are named
abbrev pub with_state_words : List (List Name) → Settings
with_state_words words = record parity_settings { state_words = Some words }

-- ports on one line
abbrev pub ports_on : ℕ → List Name → List Port
ports_on n ports = map (λ p. record { name = p; line = n }) ports

abbrev pub bound : Name → Name → Bind
bound formal actual = record { formal = formal; actual = actual }

-- the S-box of a cipher, and a linear layer of two sums
abbrev pub cipher_library : Library
cipher_library =
    record {
      tables =
          record {
            name = codes "present";
            table = record { ins = 4; outs = 4; rows = 12 ∷ 5 ∷ 6 ∷ 11 ∷ 9 ∷ 0 ∷ 10 ∷ 13 ∷ 3 ∷ 14 ∷ 15 ∷ 8 ∷ 4 ∷ 7 ∷ 1 ∷ 2 ∷ [] };
          }
          ∷ [];
      linears = record { name = codes "mix"; layer = record { rows = 3 ∷ 6 ∷ []; width = 3 } } ∷ [];
    }

-- one S-box, whose ports are given in another order than its own
abbrev pub box_model : Model
box_model =
    record {
      name = codes "b";
      line = 1;
      names = codes "a" ∷ codes "b" ∷ codes "c" ∷ codes "d" ∷ codes "y0" ∷ codes "y1" ∷ codes "y2" ∷ codes "y3" ∷ [];
      inputs = ports_on 2 (codes "a" ∷ codes "b" ∷ codes "c" ∷ codes "d" ∷ []);
      outputs = ports_on 3 (codes "y0" ∷ codes "y1" ∷ codes "y2" ∷ codes "y3" ∷ []);
      clocks = [];
      statements =
          record {
            line = 4;
            what =
                subckt (codes "present")
                (bound (codes "o3") (codes "y3") ∷ bound (codes "i2") (codes "c") ∷ bound (codes "i0") (codes "a") ∷ bound (codes "o0") (codes "y0")
                ∷ bound (codes "i1") (codes "b") ∷ bound (codes "i3") (codes "d") ∷ bound (codes "o1") (codes "y1") ∷ bound (codes "o2") (codes "y2") ∷ []);
          }
          ∷ [];
    }

abbrev pub box_file : File
box_file = record { models = box_model ∷ [] }

-- one linear layer
abbrev pub layer_model : Model
layer_model =
    record {
      name = codes "s";
      line = 1;
      names = codes "a" ∷ codes "b" ∷ codes "c" ∷ codes "y" ∷ codes "z" ∷ [];
      inputs = ports_on 2 (codes "a" ∷ codes "b" ∷ codes "c" ∷ []);
      outputs = ports_on 3 (codes "y" ∷ codes "z" ∷ []);
      clocks = [];
      statements =
          record {
            line = 4;
            what =
                subckt (codes "mix")
                (bound (codes "i0") (codes "a") ∷ bound (codes "i1") (codes "b") ∷ bound (codes "i2") (codes "c") ∷ bound (codes "o0") (codes "y")
                ∷ bound (codes "o1") (codes "z") ∷ []);
          }
          ∷ [];
    }

abbrev pub layer_file : File
layer_file = record { models = layer_model ∷ [] }

-- one input is on and the other is off
abbrev pub only_first_cover : Cover
only_first_cover = record { on = true; rows = record { care = 3; value = 1 } ∷ [] }

-- a model that is placed, with an input on a line of clocks
abbrev pub gated_model : Model
gated_model =
    record {
      name = codes "gated";
      line = 6;
      names = codes "d" ∷ codes "k" ∷ codes "q" ∷ [];
      inputs = ports_on 7 (codes "d" ∷ []);
      outputs = ports_on 9 (codes "q" ∷ []);
      clocks = ports_on 8 (codes "k" ∷ []);
      statements = record { line = 10; what = names (codes "d" ∷ codes "k" ∷ []) (codes "q") only_first_cover } ∷ [];
    }

-- two copies of it, with the inputs exchanged
abbrev pub copies_model : Model
copies_model =
    record {
      name = codes "t";
      line = 1;
      names = codes "a" ∷ codes "b" ∷ codes "y" ∷ codes "z" ∷ [];
      inputs = ports_on 2 (codes "a" ∷ codes "b" ∷ []);
      outputs = ports_on 3 (codes "y" ∷ codes "z" ∷ []);
      clocks = [];
      statements =
          record { line = 4; what = subckt (codes "gated") (bound (codes "d") (codes "a") ∷ bound (codes "k") (codes "b") ∷ bound (codes "q") (codes "y") ∷ []) }
          ∷ record { line = 5; what = subckt (codes "gated") (bound (codes "q") (codes "z") ∷ bound (codes "k") (codes "a") ∷ bound (codes "d") (codes "b") ∷ []) }
          ∷ [];
    }

abbrev pub copies_file : File
copies_file = record { models = copies_model ∷ gated_model ∷ [] }

-- the text of the file in which a cell reads a later one, and its flat netlist
abbrev pub backward_text : List ℕ
backward_text = codes ".model r\n.inputs a\n.outputs y\n.names m y\n0 1\n.names a m\n0 1\n"

abbrev pub forward_text : List ℕ
forward_text = codes "# unknown inits 0\n.model r\n.inputs a\n.outputs y\n.names a guard:n0\n0 1\n.names guard:n0 y\n0 1\n.end\n"

abbrev pub forward_model : Model
forward_model =
    record {
      name = codes "r";
      line = 2;
      names = codes "a" ∷ codes "y" ∷ codes "guard:n0" ∷ [];
      inputs = ports_on 3 (codes "a" ∷ []);
      outputs = ports_on 4 (codes "y" ∷ []);
      clocks = [];
      statements =
          record { line = 5; what = names (codes "a" ∷ []) (codes "guard:n0") inverter_cover }
          ∷ record { line = 7; what = names (codes "guard:n0" ∷ []) (codes "y") inverter_cover }
          ∷ [];
    }

abbrev pub forward_file : File
forward_file = record { models = forward_model ∷ [] }

-- the gates that this netlist is written for
abbrev pub forward_named : Named
forward_named =
    record {
      model = codes "r";
      unknown_inits = 0;
      inputs = codes "a" ∷ [];
      clocks = [];
      outputs = 2 ∷ [];
      clocking = plain;
      net = record { leaves = 1; gates = one true 0 ∷ one true 1 ∷ [] };
      labels = given (codes "a") ∷ inner 0 ∷ given (codes "y") ∷ [];
      latches = [];
      data_inputs = 1;
    }

-- The gates of the register that turns its bit: net 0 is its latch, and net 1 the inverse.
abbrev pub inverter_machine : Machine
inverter_machine =
    record {
      net = record { leaves = 1; gates = one true 0 ∷ [] };
      inputs = 0;
      latches = record { d = 1; init = false } ∷ [];
      outputs = 0 ∷ [];
    }

abbrev pub inverter_elaborated : Elaborated
inverter_elaborated =
    record {
      machine = inverter_machine;
      model = codes "inv";
      input_ports = [];
      clock_ports = [];
      data_names = [];
      output_names = codes "q" ∷ [];
      latch_names = codes "q" ∷ [];
      clocking = plain;
      unknown_inits = 0;
    }

-- two models that place each other
abbrev pub first_of_ring : Model
first_of_ring =
    record {
      name = codes "m";
      line = 1;
      names = [];
      inputs = [];
      outputs = [];
      clocks = [];
      statements = record { line = 2; what = subckt (codes "s") [] } ∷ [];
    }

abbrev pub second_of_ring : Model
second_of_ring =
    record {
      name = codes "s";
      line = 4;
      names = [];
      inputs = [];
      outputs = [];
      clocks = [];
      statements = record { line = 5; what = subckt (codes "m") [] } ∷ [];
    }

abbrev pub ring_of_models : File
ring_of_models = record { models = first_of_ring ∷ second_of_ring ∷ [] }

-- A model whose net q is an input and an output, so that what stands for q is read and driven where it is placed.
abbrev pub through_model : Model
through_model =
    record {
      name = codes "s";
      line = 6;
      names = codes "p" ∷ codes "q" ∷ [];
      inputs = ports_on 7 (codes "p" ∷ codes "q" ∷ []);
      outputs = ports_on 8 (codes "q" ∷ []);
      clocks = [];
      statements = [];
    }

abbrev pub around_model : Model
around_model =
    record {
      name = codes "r";
      line = 1;
      names = codes "a" ∷ codes "y" ∷ [];
      inputs = ports_on 2 (codes "a" ∷ []);
      outputs = ports_on 3 (codes "y" ∷ []);
      clocks = [];
      statements = record { line = 4; what = subckt (codes "s") (bound (codes "p") (codes "a") ∷ bound (codes "q") (codes "y") ∷ []) } ∷ [];
    }

abbrev pub around_file : File
around_file = record { models = around_model ∷ through_model ∷ [] }

-- Models `a` to `r`, each of which but the last places the next.
abbrev pub next_placed : ℕ → Bool → List Located
next_placed i true = []
next_placed i false = record { line = 2 * i + 2; what = subckt ((97 + suc i) ∷ []) [] } ∷ []

abbrev pub chain_model : ℕ → Model
chain_model i =
    record {
      name = (97 + i) ∷ [];
      line = 2 * i + 1;
      names = [];
      inputs = [];
      outputs = [];
      clocks = [];
      statements = next_placed i (i == 17);
    }

abbrev pub chain_file : File
chain_file = record { models = map chain_model (range_with_len 0 18) }

-- a file of one model `m`
abbrev pub file_with : List Name → List Port → List Port → List Located → File
file_with nets inputs outputs statements =
    record { models = record { name = codes "m"; line = 1; names = nets; inputs = inputs; outputs = outputs; clocks = []; statements = statements } ∷ [] }

abbrev pub zero_cover : Cover
zero_cover = record { on = true; rows = [] }

-- two cells for one net
abbrev pub driven_twice : File
driven_twice =
    file_with (codes "y" ∷ []) [] [] (record { line = 2; what = names [] (codes "y") zero_cover } ∷ record { line = 3; what = names [] (codes "y") zero_cover } ∷ [])

-- an output that nothing drives
abbrev pub not_driven : File
not_driven = file_with (codes "y" ∷ []) [] (ports_on 2 (codes "y" ∷ [])) []

-- latches on two edges of a clock
abbrev pub two_edges : File
two_edges =
    file_with (codes "c" ∷ codes "d" ∷ codes "a" ∷ codes "b" ∷ []) (ports_on 2 (codes "c" ∷ codes "d" ∷ [])) []
    (record { line = 3; what = latch (codes "d") (codes "a") (edge true (Some (codes "c"))) (Some 0) }
    ∷ record { line = 4; what = latch (codes "d") (codes "b") (edge false (Some (codes "c"))) (Some 0) } ∷ [])

-- a clock that is read
abbrev pub clock_is_read : File
clock_is_read =
    file_with (codes "c" ∷ codes "a" ∷ []) (ports_on 2 (codes "c" ∷ [])) (ports_on 3 (codes "c" ∷ []))
    (record { line = 4; what = latch (codes "c") (codes "a") (edge true (Some (codes "c"))) (Some 0) } ∷ [])

-- an input with a name of the guard's
abbrev pub guard_is_named : File
guard_is_named = file_with (codes "guard:x" ∷ []) (ports_on 2 (codes "guard:x" ∷ [])) [] []

-- a model of three inputs with these outputs and cells
abbrev pub cells_model : List Name → List Statement → Model
cells_model outs cells =
    record {
      name = codes "h";
      line = 1;
      names = codes "a" ∷ codes "b" ∷ codes "c" ∷ codes "y" ∷ codes "z" ∷ [];
      inputs = record { name = codes "a"; line = 2 } ∷ record { name = codes "b"; line = 2 } ∷ record { name = codes "c"; line = 2 } ∷ [];
      outputs = map (λ n. record { name = n; line = 3 }) outs;
      clocks = [];
      statements = map (λ s. record { line = 4; what = s }) cells;
    }

-- a cell of three inputs; a cell that nothing reads; a cell that reads an output
abbrev pub wide_model : Model
wide_model = cells_model (codes "y" ∷ []) (names (codes "a" ∷ codes "b" ∷ codes "c" ∷ []) (codes "y") both_cover ∷ [])

abbrev pub unused_model : Model
unused_model = cells_model (codes "y" ∷ []) (names (codes "a" ∷ []) (codes "z") buffer_cover ∷ names (codes "a" ∷ []) (codes "y") buffer_cover ∷ [])

abbrev pub reading_model : Model
reading_model = cells_model (codes "y" ∷ codes "z" ∷ []) (names (codes "a" ∷ []) (codes "y") buffer_cover ∷ names (codes "y" ∷ []) (codes "z") inverter_cover ∷ [])

-- five places in a word of four and a word of one
abbrev pub five_layout : Layout
five_layout = record { state = (0 ∷ 1 ∷ 2 ∷ 3 ∷ []) ∷ (4 ∷ []) ∷ []; output = (0 ∷ 1 ∷ 2 ∷ 3 ∷ []) ∷ (4 ∷ []) ∷ [] }

-- five outputs of a source, and what a guard shows of them: the check bits of both words, and four rails
abbrev pub five_outputs : Bits
five_outputs = true ∷ false ∷ false ∷ false ∷ true ∷ []

abbrev pub five_shown : Bits
five_shown = five_outputs ++ (false ∷ true ∷ true ∷ true ∷ []) ++ (false ∷ true ∷ true ∷ true ∷ []) ++ (false ∷ false ∷ true ∷ false ∷ [])

-- the bit four times, which is a code of distance 4
abbrev pub fourfold_code : Code
fourfold_code = record { columns = 3; rows = (true ∷ true ∷ true ∷ []) ∷ [] }
