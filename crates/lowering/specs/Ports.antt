-- The nets of the ports of library entries.
use Rattle.std.specs.Prelude.{◌≡◌, ℕ, ◌+◌, ◌≤◌, Bool, List, [], ◌∷◌, length, map, find, Option, Some, None, if◌then◌else◌, slice_index, slice_index_or, slice_set}
use Rattle.std.specs.List.{AllByRecursion, range_with_len}
use Rattle.netlist_spec.specs.Netlist.{Name, same_name, stands_in}
use Rattle.netlist_spec.specs.Placed.{numbered_ports}
use Rattle.netlist_spec.specs.Gates.{GateList}
use Rattle.blif_read.specs.declared.file.Bind.{Bind as ReadBind}
use Rattle.gate_net.specs.GateNet.{net_count}
use Rattle.reduction.specs.Appended.{Extends, HasBits, IsAppended, ReadsInputsAlone}
use Rattle.lowering.specs.Nets.{place_of}

abbrev pub bind_net : List ℕ → Option ReadBind → ℕ
bind_net table None = 0
bind_net table (Some b) = slice_index table b.actual.0

-- the net of what stands for a port
abbrev pub port_net : List ℕ → List ReadBind → Name → ℕ
port_net table binds port = bind_net table (find (λ (b : ReadBind). same_name b.formal port) binds)

abbrev pub input_nets : List ℕ → List ReadBind → ℕ → List ℕ
input_nets table binds count = map (port_net table binds) (numbered_ports 105 count)

-- A net is put at the place of its port, if it is one.
abbrev pub input_put : List ℕ → List ℕ → ReadBind → List ℕ
input_put table nets b =
    if stands_in b.formal (numbered_ports 105 (length nets))
    then slice_set nets (place_of (numbered_ports 105 (length nets)) b.formal) (slice_index table b.actual.0)
    else nets

-- What stands for an output port gets the net of that output.
abbrev pub output_put : List Name → List ℕ → List ℕ → ReadBind → List ℕ
output_put ports outs table b =
    if stands_in b.formal ports
    then slice_set table b.actual.0 (slice_index_or outs (place_of ports b.formal) 0)
    else table

abbrev pub outputs_put : List Name → List ℕ → List ℕ → List ReadBind → List ℕ
outputs_put ports outs table [] = table
outputs_put ports outs table (b ∷ bs) = outputs_put ports outs (output_put ports outs table b) bs

-- Gates are appended for an entry with so many inputs and outputs, and the nets of its outputs are noted where they are
-- bound. `value` gives output j at some input bits.
pub record NotesPorts (ins outs : ℕ) (value : List Bool → ℕ → Bool) (most : ℕ) (binds : List ReadBind) (old : GateList) (before : List ℕ) (new : GateList) (noted : List ℕ) : Type 0 where
  pub nets : List ℕ
  pub count : length nets ≡ outs
  pub table : noted ≡ outputs_put (numbered_ports 111 outs) nets before binds
  pub appended : AllByRecursion (IsAppended old new) nets
  pub values : HasBits old new nets (λ v. map (value (map v (input_nets before binds ins))) (range_with_len 0 outs))
  pub cost : net_count new ≤ net_count old + most
  pub reads : ReadsInputsAlone old new (input_nets before binds ins)
  pub extends : Extends old new
