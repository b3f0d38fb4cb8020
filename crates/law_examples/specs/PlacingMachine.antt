-- A machine that is made of a small source which places a model.
use Rattle.std.specs.Prelude.{false, [], ◌∷◌, codes, if◌then◌else◌}
use Rattle.netlist_spec.specs.Netlist.{same_name}
use Rattle.netlist_spec.specs.Gates.{one, Machine}
use Rattle.source_laws.specs.Nets.{Nets}

-- one gate, which copies the input
abbrev pub copying_machine : Machine
copying_machine = record { net = record { leaves = 1; gates = one false 0 ∷ [] }; inputs = 1; latches = []; outputs = 1 ∷ [] }

-- the nets of the names of the main model, and of the model that it places
abbrev pub outer_nets : Nets
outer_nets n = if same_name n (codes "a") then 0 else 1

abbrev pub inner_nets : Nets
inner_nets n = if same_name n (codes "p") then 0 else 1
