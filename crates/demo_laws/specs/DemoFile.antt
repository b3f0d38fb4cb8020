-- The file that the netlist of the demo design declares, and its layout.
use Rattle.std.specs.Prelude.{ℕ, ◌+◌, ◌*◌, true, List, [], ◌∷◌, ◌++◌, map, codes, Some}
use Rattle.std.specs.List.{flat_map, range_with_len}
use Rattle.netlist_spec.specs.Netlist.{Name, Cover, plain, Statement, names, latch, subckt, Located, Model, File}
use Rattle.netlist_spec.specs.Reads.{first_appearances, statement_nets, ports_at}
use Rattle.guard_spec.specs.Words.{Words, Layout}
use Rattle.program_spec.specs.Demo.{numbered, state_bits, moved_to, box_binds}

-- the name of an input, an output, and a net of each kind, by number
abbrev pub loaded : ℕ → Name
loaded i = numbered 112 i

abbrev pub shown : ℕ → Name
shown i = numbered 99 i

abbrev pub stored : ℕ → Name
stored i = numbered 115 i

abbrev pub next : ℕ → Name
next i = numbered 110 i

abbrev pub substituted : ℕ → Name
substituted i = numbered 98 i

abbrev pub load : Name
load = codes "load"

-- a latch for each state bit, from 0
abbrev pub state_latch : ℕ → Statement
state_latch i = latch (next i) (stored i) plain (Some 0)

-- the S-box over four bits
abbrev pub box : ℕ → Statement
box j = subckt (codes "present") (box_binds j)

-- rows `11-` and `0-1`
abbrev pub choice_cover : Cover
choice_cover = record { on = true; rows = record { care = 3; value = 3 } ∷ record { care = 5; value = 4 } ∷ [] }

abbrev pub copy_cover : Cover
copy_cover = record { on = true; rows = record { care = 1; value = 1 } ∷ [] }

-- the choice of bit e from the loaded bit and bit i behind the boxes
abbrev pub choice_of : (e i : ℕ) → Statement
choice_of e i = names (load ∷ loaded e ∷ substituted i ∷ []) (next e) choice_cover

abbrev pub choice : (n i : ℕ) → Statement
choice n i = choice_of (moved_to n i) i

-- an output is a copy of its state bit
abbrev pub copy : ℕ → Statement
copy i = names (stored i ∷ []) (shown i) copy_cover

abbrev pub boxes : ℕ → List ℕ
boxes n = range_with_len 0 n

abbrev pub demo_statements : ℕ → List Statement
demo_statements n = map state_latch (state_bits n) ++ (map box (boxes n) ++ (map (choice n) (state_bits n) ++ map copy (state_bits n)))

abbrev pub on_line : ℕ → Statement → Located
on_line line s = record { line = line; what = s }

-- Port lines, latches and boxes take a line each, choices three and copies two.
abbrev pub demo_located : ℕ → List Located
demo_located n =
    map (λ i. on_line (4 + i) (state_latch i)) (state_bits n)
    ++ (map (λ j. on_line (4 + 4 * n + j) (box j)) (boxes n)
    ++ (map (λ i. on_line (4 + 5 * n + 3 * i) (choice n i)) (state_bits n)
    ++ map (λ i. on_line (4 + 17 * n + 2 * i) (copy i)) (state_bits n)))

abbrev pub input_names : ℕ → List Name
input_names n = load ∷ map loaded (state_bits n)

abbrev pub output_names : ℕ → List Name
output_names n = map shown (state_bits n)

abbrev pub demo_model : ℕ → Model
demo_model n =
    record {
      name = codes "demo";
      line = 1;
      names = first_appearances (input_names n ++ (output_names n ++ flat_map statement_nets (demo_statements n)));
      inputs = ports_at 2 (input_names n);
      outputs = ports_at 3 (output_names n);
      clocks = [];
      statements = demo_located n;
    }

abbrev pub demo_file : ℕ → File
demo_file n = record { models = demo_model n ∷ [] }

-- words of four bits, in order
abbrev pub word_of : ℕ → List ℕ
word_of j = (4 * j + 0) ∷ (4 * j + 1) ∷ (4 * j + 2) ∷ (4 * j + 3) ∷ []

abbrev pub demo_words : ℕ → Words
demo_words n = map word_of (boxes n)

abbrev pub demo_layout : ℕ → Layout
demo_layout n = record { state = demo_words n; output = demo_words n }
