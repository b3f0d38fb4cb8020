-- The ports of what a `.subckt` places, and what stands for them.
use Rattle.std.specs.Prelude.{List, [], ◌∷◌, ◌++◌, map, filter, length, All}
use Rattle.std.specs.List.{AllZip}
use Rattle.netlist_spec.specs.Netlist.{Name, stands_in, File}
use Rattle.netlist_spec.specs.Covers.{Library}
use Rattle.netlist_spec.specs.Placed.{Placed, port_names, input_ports, output_ports}
use Rattle.imp_text.specs.declared.names.NameId.{NameId}
use Rattle.blif_read.specs.declared.file.Model.{Model as ReadModel}
use Rattle.blif_read.specs.declared.file.Bind.{Bind as ReadBind}
use Rattle.blif_read.specs.declared.file.Statement.{Statement as ReadStatement}
use Rattle.blif_read.specs.declared.file.Statement.TheVariants.{Names, Latch, Subckt}
use Rattle.blif_read.specs.Ids.{HasIds}
use Rattle.blif_read.specs.View.{file_of, model_of}
use Rattle.line_order.specs.Marks.{Marks}
use Rattle.source_nets.specs.declared.types.Meaning.{Meaning}
use Rattle.source_nets.specs.declared.types.Source.{Source}
use Rattle.source_nets.specs.declared.ports.PortKind.{PortKind}
use Rattle.source_nets.specs.declared.ports.PortKind.TheVariants.{Input, Output}
use Rattle.source_nets.specs.declared.ports.PortMarks.{PortMarks}
use Rattle.source_nets.specs.Survey.{library_of, placed_at}

abbrev pub ports_of : PortKind → Placed → List Name
ports_of Input p = input_ports p
ports_of Output p = output_ports p

-- the names that are ports have a mark
pub record IsPortMarks (m : ReadModel) (marks : PortMarks) : Type 0 where
  pub inputs : Marks m.names marks.inputs (port_names (model_of m).inputs ++ port_names (model_of m).clocks)
  pub outputs : Marks m.names marks.outputs (port_names (model_of m).outputs)

-- the file, and the library that goes with it
abbrev pub source_file : Source → File
source_file s = file_of s.file.now

abbrev pub source_library : Source → Library
source_library s = library_of s.tables.now s.linears.now

pub record IsSource (s : Source) : Type 0 where
  pub ids : All HasIds s.file.now.models.items
  pub ports : AllZip IsPortMarks s.file.now.models.items s.ports.now

-- the numbers of the nets that stand for some ports
abbrev pub actual_ids : List Name → List ReadBind → List NameId
actual_ids ports binds = map (λ (b : ReadBind). b.actual) (filter (λ (b : ReadBind). stands_in b.formal ports) binds)

-- the numbers of the nets that a statement reads, or drives
abbrev pub net_ids : File → Library → PortKind → Meaning → ReadStatement → List NameId
net_ids file library Input meaning (Names ins out cover) = ins.items
net_ids file library Input meaning (Latch d q clocking init) = d ∷ []
net_ids file library Input meaning (Subckt model binds) = actual_ids (input_ports (placed_at file library meaning)) binds.items
net_ids file library Output meaning (Names ins out cover) = out ∷ []
net_ids file library Output meaning (Latch d q clocking init) = q ∷ []
net_ids file library Output meaning (Subckt model binds) = actual_ids (output_ports (placed_at file library meaning)) binds.items
