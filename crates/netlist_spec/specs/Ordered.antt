-- Files whose cells can be computed line by line, and the first line at fault in others.
use Rattle.std.specs.Prelude.{◌≡◌, ℕ, Bool, true, false, ◌||◌, List, [], ◌∷◌, not, Option, Some, None, if◌then◌else◌}
use Rattle.std.specs.List.{flat_map, list_all, list_any}
use Rattle.std.specs.Option.{option_or}
use Rattle.netlist_spec.specs.Netlist.{Name, stands_in, Statement, names, latch, subckt, Model, File}
use Rattle.netlist_spec.specs.Models.{latches_of, first_clocking, same_clocking, is_declared, data_inputs, latch_outputs}
use Rattle.netlist_spec.specs.FileOrder.{Declared, an_input, an_output, a_clock, a_statement, Item, items_of, first_answer, inputs_among, outputs_among, clocks_among}

-- A cell is one `.names` or one `.latch`, named by its output net. Inputs, clocks and wires are no cells.
abbrev pub driven_by : Statement → List Name
driven_by (names ins out cover) = out ∷ []
driven_by (latch d q clocking init) = q ∷ []
driven_by (subckt model binds) = []

-- what one item drives as a cell
abbrev pub declared_cell : Declared → List Name
declared_cell (a_statement s) = driven_by s
declared_cell _ = []

abbrev pub gate_of : Statement → List Name
gate_of (names ins out cover) = out ∷ []
gate_of _ = []

abbrev pub declared_gate : Declared → List Name
declared_gate (a_statement s) = gate_of s
declared_gate _ = []

-- what some items drive as cells
abbrev pub cells_among : List Item → List Name
cells_among items = flat_map (λ i. declared_cell i.what) items

abbrev pub gates_among : List Item → List Name
gates_among items = flat_map (λ i. declared_gate i.what) items

-- the nets of the cells of a model
abbrev pub cell_nets : Model → List Name
cell_nets m = flat_map (λ s. driven_by s.what) m.statements

-- No net is driven twice, by an input, a clock or a cell; the later line is at fault. A name may stand in
-- `.inputs` and `.clock` both, and once in `.outputs`.
abbrev pub is_driven_again : List Item → Declared → Bool
is_driven_again earlier (an_input n) = stands_in n (inputs_among earlier) || stands_in n (cells_among earlier)
is_driven_again earlier (a_clock n) = stands_in n (clocks_among earlier) || stands_in n (cells_among earlier)
is_driven_again earlier (an_output n) = stands_in n (outputs_among earlier)
is_driven_again earlier (a_statement s) =
    list_any (λ n. stands_in n (inputs_among earlier) || stands_in n (clocks_among earlier) || stands_in n (cells_among earlier)) (driven_by s)

-- A `.names` reads only data inputs, outputs of latches of the model, and outputs of earlier `.names`.
abbrev pub may_read : Model → List Item → Name → Bool
may_read m earlier n = (stands_in n (data_inputs m) || stands_in n (latch_outputs m)) || stands_in n (gates_among earlier)

abbrev pub reads_later : Model → List Item → Declared → Bool
reads_later m earlier (a_statement (names ins out cover)) = not (list_all (may_read m earlier) ins)
reads_later m earlier _ = false

-- Each latch's D and each output is a data input or a cell's output.
abbrev pub is_source : Model → Name → Bool
is_source m n = stands_in n (data_inputs m) || stands_in n (cell_nets m)

abbrev pub has_no_source : Model → Declared → Bool
has_no_source m (an_output n) = not (is_source m n)
has_no_source m (a_statement (latch d q clocking init)) = not (is_source m d)
has_no_source m _ = false

-- All latches have the pair of the first one, and its control is `NIL` or declared.
abbrev pub is_clocked_otherwise : Model → Declared → Bool
is_clocked_otherwise m (a_statement (latch d q clocking init)) =
    not (same_clocking clocking (first_clocking (latches_of m))) || not (is_declared m clocking)
is_clocked_otherwise m _ = false

-- There is no `.subckt`.
abbrev pub is_subckt : Declared → Bool
is_subckt (a_statement (subckt model binds)) = true
is_subckt _ = false

-- what is wrong with a line
pub data OrderFault : Type 0 where
  unordered : (line : ℕ) → OrderFault
  has_subckt : (line : ℕ) → OrderFault

-- whether a line breaks one of the other points, given the lines before it
abbrev pub is_at_fault : Model → List Item → Declared → Bool
is_at_fault m earlier what =
    is_driven_again earlier what || reads_later m earlier what || has_no_source m what || is_clocked_otherwise m what

-- what is wrong with one line of the model
abbrev pub item_fault : Model → List Item → Item → Option OrderFault
item_fault m earlier item =
    if is_subckt item.what then Some (has_subckt item.line)
    else if is_at_fault m earlier item.what then Some (unordered item.line)
    else None

-- There is one model; a second `.model` line is at fault.
abbrev pub second_model_fault : List Model → Option OrderFault
second_model_fault [] = None
second_model_fault (m ∷ ms) = Some (unordered m.line)

abbrev pub fault_of_models : List Model → Option OrderFault
fault_of_models [] = None
fault_of_models (m ∷ ms) = option_or (first_answer (item_fault m) [] (items_of m)) (second_model_fault ms)

-- The first line at fault. The lines of the first model stand before the second `.model` line.
abbrev pub order_fault : File → Option OrderFault
order_fault file = fault_of_models file.models

-- The file has one model, and no line of it breaks a point.
pub record IsOrdered (file : File) : Type 0 where
  pub model : Model
  pub one_model : file.models ≡ model ∷ []
  pub no_fault : order_fault file ≡ None
