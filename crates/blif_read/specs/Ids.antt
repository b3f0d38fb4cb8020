-- The numbers of names in a model.
use Rattle.std.specs.Prelude.{◌<◌, List, [], ◌∷◌, ◌++◌, length, map, None, Some, All}
use Rattle.netlist_spec.specs.Netlist.{Name}
use Rattle.imp_text.specs.declared.names.NameId.{NameId}
use Rattle.blif_read.specs.declared.file.Model.{Model}
use Rattle.blif_read.specs.declared.file.Port.{Port}
use Rattle.blif_read.specs.declared.file.Located.{Located}
use Rattle.blif_read.specs.declared.file.Bind.{Bind}
use Rattle.blif_read.specs.declared.file.Clocking.{Clocking}
use Rattle.blif_read.specs.declared.file.Clocking.TheVariants.{Plain, Edge}
use Rattle.blif_read.specs.declared.file.Statement.{Statement}
use Rattle.blif_read.specs.declared.file.Statement.TheVariants.{Names, Latch, Subckt}

-- the number is that of one of the names
abbrev pub IsIdOf : List Name → NameId → Type 0
IsIdOf names id = id.0 < length names

abbrev pub control_ids : Clocking → List NameId
control_ids Plain = []
control_ids (Edge rising None) = []
control_ids (Edge rising (Some control)) = control ∷ []

-- the numbers in a statement
abbrev pub ids_in : Statement → List NameId
ids_in (Names ins out cover) = ins.items ++ out ∷ []
ids_in (Latch d q clocking init) = d ∷ q ∷ control_ids clocking
ids_in (Subckt model binds) = map (λ (bind : Bind). bind.actual) binds.items

-- each number in the model is that of one of its names
pub record HasIds (m : Model) : Type 0 where
  pub inputs : All (λ (port : Port). IsIdOf m.names port.name) m.inputs.items
  pub outputs : All (λ (port : Port). IsIdOf m.names port.name) m.outputs.items
  pub clocks : All (λ (port : Port). IsIdOf m.names port.name) m.clocks.items
  pub statements : All (λ (located : Located). All (IsIdOf m.names) (ids_in located.what)) m.statements.items
