-- What is marked when some lines of a model have been passed.
use Rattle.std.specs.Prelude.{◌≡◌, ℕ, Bool, ◌||◌, List, [], ◌∷◌, ◌++◌, length, All, Option, None, Some, option_map}
use Rattle.netlist_spec.specs.Netlist.{Name, stands_in, Model}
use Rattle.netlist_spec.specs.Placed.{port_names}
use Rattle.netlist_spec.specs.Models.{data_inputs, latch_outputs, first_clocking, latches_of}
use Rattle.netlist_spec.specs.FileOrder.{Item, inputs_among, outputs_among, clocks_among}
use Rattle.netlist_spec.specs.Ordered.{cell_nets, cells_among, gates_among}
use Rattle.imp_text.specs.declared.names.NameId.{NameId}
use Rattle.blif_read.specs.Ids.{IsIdOf, control_ids}
use Rattle.blif_read.specs.View.{name_at, clocking_of}
use Rattle.line_order.specs.declared.tables.Tables.{Tables}
use Rattle.line_order.specs.Marks.{Marks}

-- each list has as many marks
pub record HaveSize (size : ℕ) (t : Tables) : Type 0 where
  pub known : length t.known ≡ size
  pub sources : length t.sources ≡ size
  pub declared : length t.declared ≡ size
  pub inputs : length t.inputs ≡ size
  pub outputs : length t.outputs ≡ size
  pub clocks : length t.clocks ≡ size
  pub cells : length t.cells ≡ size

-- what is marked when these lines are passed
pub record AreTables (m : Model) (passed : List Item) (t : Tables) : Type 0 where
  pub known : Marks m.names t.known ((data_inputs m ++ latch_outputs m) ++ gates_among passed)
  pub sources : Marks m.names t.sources (data_inputs m ++ cell_nets m)
  pub declared : Marks m.names t.declared (port_names m.inputs ++ port_names m.clocks)
  pub inputs : Marks m.names t.inputs (inputs_among passed)
  pub outputs : Marks m.names t.outputs (outputs_among passed)
  pub clocks : Marks m.names t.clocks (clocks_among passed)
  pub cells : Marks m.names t.cells (cells_among passed)
  pub first : clocking_of m.names t.first ≡ first_clocking (latches_of m)
  pub control : All (IsIdOf m.names) (control_ids t.first)

-- whether a line that has been passed drives the net
abbrev pub is_driven_before : List Item → Name → Bool
is_driven_before passed n = (stands_in n (inputs_among passed) || stands_in n (clocks_among passed)) || stands_in n (cells_among passed)

-- the name of a control
abbrev pub named_control : List Name → Option NameId → Option Name
named_control all control = option_map (name_at all) control

abbrev pub control_of : Option NameId → List NameId
control_of None = []
control_of (Some id) = id ∷ []
