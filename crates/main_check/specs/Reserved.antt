-- Names that a written netlist can't take over, by what they name.
use Rattle.std.specs.Prelude.{List, ⊤}
use Rattle.std.specs.List.{flat_map}
use Rattle.netlist_spec.specs.Netlist.{Name, Model}
use Rattle.blif_read.specs.declared.file.Located.{Located as ReadLocated}
use Rattle.blif_read.specs.Ids.{IsIdOf}
use Rattle.blif_read.specs.View.{name_at, statement_of}
use Rattle.line_order.specs.Marks.{latch_output_of}
use Rattle.main_check.specs.declared.reserved.Reserved.{Reserved}
use Rattle.main_check.specs.declared.reserved.Reserved.TheVariants.{Model as OfModel, Net}

abbrev pub reserved_told : Model → Reserved → Name
reserved_told m OfModel = m.name
reserved_told m (Net id) = name_at m.names id

-- a net is told by the number of a name
abbrev pub IsReservedIn : List Name → Reserved → Type 0
IsReservedIn all OfModel = ⊤
IsReservedIn all (Net id) = IsIdOf all id

-- the outputs of latches among some statements
abbrev pub outputs_of : List Name → List ReadLocated → List Name
outputs_of all ss = flat_map (λ (s : ReadLocated). latch_output_of (statement_of all s.what)) ss
