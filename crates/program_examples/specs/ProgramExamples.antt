-- Settings, contents and scripts that are told, and the demo design for n = 1.
use Rattle.std.specs.Prelude.{ℕ, List, [], ◌∷◌, ◌++◌, map, codes, true, Some, None, if◌then◌else◌}
use Rattle.std.specs.List.{flat_map}
use Rattle.netlist_spec.specs.Netlist.{Name, same_name, plain, names, latch, subckt, Model, File, Statement}
use Rattle.guard_spec.specs.Words.{Layout}
use Rattle.program_spec.specs.Walk.{Contents}
use Rattle.program_spec.specs.Demo.{numbered, state_bits, moved_to, box_binds}
use Rattle.spec_examples.specs.Examples.{inverter_text, buffer_cover}

-- settings for a code of one data place and one check place
abbrev pub parity_text : List ℕ
parity_text = codes "mode = \"detect\"\nbound = 1\ncheck = [\"1\"]\n"

abbrev pub inverter_contents : Contents
inverter_contents name =
    if same_name name (codes "s.toml") then Some parity_text
    else if same_name name (codes "inv.blif") then Some inverter_text
    else None

-- two latches with a cell that both store, and with a cell each; and a model that is placed
abbrev pub two_latches_text : Name → List ℕ
two_latches_text d =
    codes ".model h\n.inputs x\n.outputs y\n.latch n a 0\n.latch " ++ d
    ++ codes " b 0\n.names x n\n1 1\n.names a b y\n11 1\n.end\n"

abbrev pub placing_file : File
placing_file =
    record {
      models =
          record {
            name = codes "m";
            line = 1;
            names = [];
            inputs = [];
            outputs = [];
            clocks = [];
            statements = record { line = 2; what = subckt (codes "s") [] } ∷ [];
          }
          ∷ [];
    }

abbrev pub audited_contents : Contents
audited_contents name =
    if same_name name (codes "shared.blif") then Some (two_latches_text (codes "n"))
    else if same_name name (codes "apart.blif") then Some (two_latches_text (codes "x"))
    else if same_name name (codes "placing.blif") then Some (codes ".model m\n.subckt s\n")
    else None

-- a script of seventeen lines for one cycle and seventeen cells
abbrev pub letters : List ℕ
letters = 97 ∷ 98 ∷ 99 ∷ 100 ∷ 101 ∷ 102 ∷ 103 ∷ 104 ∷ 105 ∷ 106 ∷ 107 ∷ 108 ∷ 109 ∷ 110 ∷ 111 ∷ 112 ∷ 113 ∷ []

abbrev pub seventeen_cells : List Name
seventeen_cells = map (λ c. c ∷ []) letters

abbrev pub seventeen_lines : List ℕ
seventeen_lines = flat_map (λ c. 48 ∷ 32 ∷ c ∷ 32 ∷ 49 ∷ 10 ∷ []) letters

-- the statements of the demo design for n = 1, its model and its file
abbrev pub demo_statements : List Statement
demo_statements =
    map (λ i. latch (numbered 110 i) (numbered 115 i) plain (Some 0)) (state_bits 1)
    ++ subckt (codes "present") (box_binds 0)
    ∷ (map (λ i. names (codes "load" ∷ numbered 112 (moved_to 1 i) ∷ numbered 98 i ∷ []) (numbered 110 i) (record { on = true; rows = record { care = 3; value = 3 } ∷ record { care = 5; value = 4 } ∷ [] })) (state_bits 1)
    ++ map (λ i. names (numbered 115 i ∷ []) (numbered 99 i) buffer_cover) (state_bits 1))

abbrev pub demo_model : Model
demo_model =
    record {
      name = codes "demo";
      line = 1;
      names = [];
      inputs = map (λ n. record { name = n; line = 2 }) (codes "load" ∷ map (numbered 112) (state_bits 1));
      outputs = map (λ n. record { name = n; line = 3 }) (map (numbered 99) (state_bits 1));
      clocks = [];
      statements = map (λ s. record { line = 4; what = s }) demo_statements;
    }

abbrev pub demo_file : File
demo_file = record { models = demo_model ∷ [] }

abbrev pub four_layout : Layout
four_layout = record { state = (0 ∷ 1 ∷ 2 ∷ 3 ∷ []) ∷ []; output = (0 ∷ 1 ∷ 2 ∷ 3 ∷ []) ∷ [] }
