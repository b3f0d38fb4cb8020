-- What is marked when some declarations of a model have been passed.
use Rattle.std.specs.Prelude.{◌≡◌, ℕ, List, length}
use Rattle.netlist_spec.specs.Covers.{Library}
use Rattle.netlist_spec.specs.FileOrder.{Item, inputs_among, outputs_among, clocks_among}
use Rattle.netlist_spec.specs.Netlist.{Model, File}
use Rattle.netlist_spec.specs.SoundFaults.{driven_among}
use Rattle.line_order.specs.Marks.{Marks}
use Rattle.source_tests.specs.declared.twice.Seen.{Seen}

-- each list has as many marks
pub record HaveSize (size : ℕ) (seen : Seen) : Type 0 where
  pub inputs : length seen.inputs ≡ size
  pub outputs : length seen.outputs ≡ size
  pub clocks : length seen.clocks ≡ size
  pub driven : length seen.driven ≡ size

-- the ports of each kind, and the nets that statements drive
pub record AreSeen (file : File) (library : Library) (m : Model) (passed : List Item) (seen : Seen) : Type 0 where
  pub inputs : Marks m.names seen.inputs (inputs_among passed)
  pub outputs : Marks m.names seen.outputs (outputs_among passed)
  pub clocks : Marks m.names seen.clocks (clocks_among passed)
  pub driven : Marks m.names seen.driven (driven_among file library passed)
