-- A gate list with names, and the file that it is written as.
use Rattle.std.specs.Prelude.{◌≡◌, ℕ, ◌+◌, ◌<◌, Bool, List, [], ◌∷◌, ◌++◌, length, map, filter, take, drop, not, Option, Some, slice_index_or, if◌then◌else◌, IsTrue}
use Rattle.std.specs.List.{AllByRecursion, flat_map, zip}
use Rattle.netlist_spec.specs.Lines.{ends_with_backslash}
use Rattle.netlist_spec.specs.Netlist.{Name, IsWordName, is_reserved, HasControlAmong, stands_in, are_distinct, Clocking, plain, Statement, names, latch, Port, Located, File}
use Rattle.netlist_spec.specs.Reads.{control_nets, statement_nets, first_appearances, IsWithinLimits}
use Rattle.netlist_spec.specs.Gates.{GateForm, GateList, IsGateList, LatchRow, gate_reads, gate_cover}
use Rattle.netlist_spec.specs.GuardNames.{store_name, next_name, check_name, rail_name, inner_name}

-- what names a net
pub data Label : Type 0 where
  given : (name : Name) → Label
  store : (word place : ℕ) → Label
  next : (word place : ℕ) → Label
  check : (word column : ℕ) → Label
  rail : (i : ℕ) → Label
  inner : (i : ℕ) → Label

abbrev pub label_name : Label → Name
label_name (given n) = n
label_name (store w i) = store_name w i
label_name (next w i) = next_name w i
label_name (check w j) = check_name w j
label_name (rail i) = rail_name i
label_name (inner i) = inner_name i

-- Nets are numbered: data inputs, latches, gates. There is one label for each.
pub record Named : Type 0 where
  pub model : Name
  pub unknown_inits : ℕ
  pub inputs : List Name
  pub clocks : List Name
  pub outputs : List ℕ
  pub clocking : Clocking
  pub net : GateList
  pub labels : List Label
  pub latches : List LatchRow
  pub data_inputs : ℕ

abbrev pub net_name : Named → ℕ → Name
net_name g n = slice_index_or (map label_name g.labels) n []

abbrev pub output_names : Named → List Name
output_names g = map (net_name g) g.outputs

-- the names of the latches and of the gates
abbrev pub latch_labels : Named → List Name
latch_labels g = take (length g.latches) (drop g.data_inputs (map label_name g.labels))

abbrev pub gate_labels : Named → List Name
gate_labels g = drop g.net.leaves (map label_name g.labels)

-- one line for each port, from line n on
abbrev pub ports_from : ℕ → List Name → List Port
ports_from n [] = []
ports_from n (p ∷ ps) = record { name = p; line = n } ∷ ports_from (n + 1) ps

abbrev pub written_init_of : Bool → Option ℕ
written_init_of b = Some (if b then 1 else 0)

abbrev pub latch_statement : Named → Name × LatchRow → Statement
latch_statement g l = latch (net_name g l.1.d) l.0 g.clocking (written_init_of l.1.init)

abbrev pub latch_statements : Named → List Statement
latch_statements g = map (latch_statement g) (zip (latch_labels g) g.latches)

abbrev pub gate_statement : Named → Name × GateForm → Statement
gate_statement g cell = names (map (net_name g) (gate_reads cell.1)) cell.0 (gate_cover cell.1)

abbrev pub gate_statements : Named → List Statement
gate_statements g = map (gate_statement g) (zip (gate_labels g) g.net.gates)

-- a statement has one line, and a `.names` one more for each of its rows
abbrev pub line_count : Statement → ℕ
line_count (names ins out cover) = 1 + length cover.rows
line_count _ = 1

abbrev pub statements_from : ℕ → List Statement → List Located
statements_from n [] = []
statements_from n (s ∷ ss) = record { line = n; what = s } ∷ statements_from (n + line_count s) ss

-- The file of a gate list. Its text begins with the line on unknown inits, so `.model` stands on line 2; then
-- come the inputs, the outputs, the clocks, the latches and the cells.
abbrev pub file_of : Named → File
file_of g =
    let outputs_at = 3 + length g.inputs in
    let clocks_at = outputs_at + length g.outputs in
    let statements_at = clocks_at + length g.clocks in
    let all = latch_statements g ++ gate_statements g in
    record {
      models =
          record {
            name = g.model;
            line = 2;
            names = first_appearances (g.inputs ++ output_names g ++ g.clocks ++ flat_map statement_nets all);
            inputs = ports_from 3 g.inputs;
            outputs = ports_from outputs_at (output_names g);
            clocks = ports_from clocks_at g.clocks;
            statements = statements_from statements_at all;
          }
          ∷ [];
    }

-- the clock nets
abbrev pub named_clocks : Named → List Name
named_clocks g = g.clocks ++ control_nets g.clocking

-- the names that come from a source: of the labels that are given, of the ports and of the control
abbrev pub given_name : Label → List Name
given_name (given n) = n ∷ []
given_name _ = []

abbrev pub taken_names : Named → List Name
taken_names g = flat_map given_name g.labels ++ g.inputs ++ named_clocks g

-- what holds of every gate list with names
pub record IsNamed (g : Named) : Type 0 where
  -- nets are data inputs, latches and gates, and each has a name of its own
  pub gates : IsGateList g.net
  pub leaves : g.net.leaves ≡ g.data_inputs + length g.latches
  pub labels : length g.labels ≡ g.net.leaves + length g.net.gates
  pub distinct : IsTrue (are_distinct (map label_name g.labels))
  -- the data inputs are the inputs that are no clock nets, in order, and no other net has the name of a clock net
  pub first_labels : take g.data_inputs g.labels ≡ map (λ n. given n) (filter (λ n. not (stands_in n (named_clocks g))) g.inputs)
  pub no_clock : AllByRecursion (λ n. IsTrue (not (stands_in n (named_clocks g)))) (map label_name g.labels)
  pub inputs : IsTrue (are_distinct g.inputs)
  pub clocks : IsTrue (are_distinct g.clocks)
  pub control : HasControlAmong (g.inputs ++ g.clocks) g.clocking
  pub clocking : g.latches ≡ [] → g.clocking ≡ plain
  -- outputs are nets, each once, and what a latch stores is a net
  pub outputs : AllByRecursion (λ n. n < g.net.leaves + length g.net.gates) g.outputs
  pub once : IsTrue (are_distinct (output_names g))
  pub stores : AllByRecursion (λ l. l.d < g.net.leaves + length g.net.gates) g.latches
  -- names can stand in a text, and none looks like one that a guard adds
  pub model : IsWordName g.model × IsTrue (not (ends_with_backslash g.model))
  pub words : AllByRecursion IsWordName (taken_names g)
  pub free : AllByRecursion (λ n. IsTrue (not (is_reserved n))) (taken_names g)
  pub limits : IsWithinLimits (file_of g)
