-- What the types of this crate stand for, with names in place of numbers.
use Rattle.std.specs.Prelude.{List, [], map, option_map, slice_index_or}
use Rattle.netlist_spec.specs.Netlist.{Name, Row, Cover, Clocking, plain, edge, Bind, Statement, names, latch, subckt, Port, Located, Model, File}
use Rattle.imp_text.specs.declared.names.NameId.{NameId}
use Rattle.imp_text.specs.declared.cover.Row.{Row as ReadRow}
use Rattle.imp_text.specs.declared.cover.Cover.{Cover as ReadCover}
use Rattle.blif_read.specs.declared.file.File.{File as ReadFile}
use Rattle.blif_read.specs.declared.file.Model.{Model as ReadModel}
use Rattle.blif_read.specs.declared.file.Port.{Port as ReadPort}
use Rattle.blif_read.specs.declared.file.Located.{Located as ReadLocated}
use Rattle.blif_read.specs.declared.file.Bind.{Bind as ReadBind}
use Rattle.blif_read.specs.declared.file.Clocking.{Clocking as ReadClocking}
use Rattle.blif_read.specs.declared.file.Clocking.TheVariants.{Plain, Edge}
use Rattle.blif_read.specs.declared.file.Statement.{Statement as ReadStatement}
use Rattle.blif_read.specs.declared.file.Statement.TheVariants.{Names, Latch, Subckt}

-- the name of that number, and no bytes where there is none
abbrev pub name_at : List Name → NameId → Name
name_at all id = slice_index_or all id.0 []

abbrev pub row_of : ReadRow → Row
row_of row = record { care = row.care; value = row.value }

abbrev pub cover_of : ReadCover → Cover
cover_of cover = record { on = cover.on; rows = map row_of cover.rows.items }

abbrev pub clocking_of : List Name → ReadClocking → Clocking
clocking_of all Plain = plain
clocking_of all (Edge rising control) = edge rising (option_map (name_at all) control)

abbrev pub bind_of : List Name → ReadBind → Bind
bind_of all bind = record { formal = bind.formal; actual = name_at all bind.actual }

abbrev pub statement_of : List Name → ReadStatement → Statement
statement_of all (Names ins out cover) = names (map (name_at all) ins.items) (name_at all out) (cover_of cover)
statement_of all (Latch d q clocking init) = latch (name_at all d) (name_at all q) (clocking_of all clocking) init
statement_of all (Subckt model binds) = subckt model (map (bind_of all) binds.items)

abbrev pub port_of : List Name → ReadPort → Port
port_of all port = record { name = name_at all port.name; line = port.line }

abbrev pub located_of : List Name → ReadLocated → Located
located_of all located = record { line = located.line; what = statement_of all located.what }

abbrev pub model_of : ReadModel → Model
model_of m =
    record {
      name = m.name;
      line = m.line;
      names = m.names;
      inputs = map (port_of m.names) m.inputs.items;
      outputs = map (port_of m.names) m.outputs.items;
      clocks = map (port_of m.names) m.clocks.items;
      statements = map (located_of m.names) m.statements.items;
    }

abbrev pub file_of : ReadFile → File
file_of file = record { models = map model_of file.models.items }
