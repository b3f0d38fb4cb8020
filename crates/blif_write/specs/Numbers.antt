-- Names that are numbered one after another, and what stands for them.
use Rattle.std.specs.Prelude.{ℕ, ◌+◌, ◌-◌, false, List, [], ◌∷◌, map, slice_index_or, nat_lt, if◌then◌else◌, Vec}
use Rattle.std.specs.declared.alloc.Global.{Global}
use Rattle.netlist_spec.specs.Netlist.{Name, Statement, names, latch}
use Rattle.netlist_spec.specs.Gates.{GateForm, constant, LatchRow, gate_cover, gate_reads}
use Rattle.netlist_spec.specs.Written.{Named, net_name, written_init_of}
use Rattle.imp_text.specs.declared.names.NameId.{NameId}
use Rattle.blif_read.specs.declared.file.Port.{Port as ReadPort}
use Rattle.blif_read.specs.declared.file.Model.{Model as ReadModel}
use Rattle.blif_read.specs.declared.file.Located.{Located as ReadLocated}

-- one line for each, from a line on
abbrev pub ports_numbered : ℕ → List NameId → List ReadPort
ports_numbered line [] = []
ports_numbered line (id ∷ ids) = record { name = id; line = line } ∷ ports_numbered (line + 1) ids

-- the latch and the gate whose net has that number
abbrev pub latch_with : Named → ℕ → LatchRow
latch_with g n = slice_index_or g.latches (n - g.data_inputs) (record { d = 0; init = false })

abbrev pub gate_with : Named → ℕ → GateForm
gate_with g n = slice_index_or g.net.gates (n - g.net.leaves) (constant false)

-- the statement of a latch and of a gate
abbrev pub latch_of : Named → ℕ → LatchRow → Statement
latch_of g n row = latch (net_name g row.d) (net_name g n) g.clocking (written_init_of row.init)

abbrev pub names_of : Named → ℕ → GateForm → Statement
names_of g n gate = names (map (net_name g) (gate_reads gate)) (net_name g n) (gate_cover gate)

abbrev pub statement_at : Named → ℕ → Statement
statement_at g n = if nat_lt n g.net.leaves then latch_of g n (latch_with g n) else names_of g n (gate_with g n)

-- a model of these parts, which begins on line 2
abbrev pub model_of_parts : Name → List Name → Vec ReadPort Global → Vec ReadPort Global → Vec ReadPort Global → Vec ReadLocated Global → ReadModel
model_of_parts name all inputs outputs clocks statements =
    record { name = name; line = 2; names = all; inputs = inputs; outputs = outputs; clocks = clocks; statements = statements }
