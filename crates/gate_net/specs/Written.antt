-- Gate lists with names, and the valuations of the files that they are written as.
use Rattle.std.specs.Prelude.{◌≡◌, ℕ, ◌<◌, Bool, length, map, take, IsSomeAnd, IsTrue}
use Rattle.std.specs.List.{AllByRecursion}
use Rattle.netlist_spec.specs.Netlist.{are_distinct}
use Rattle.netlist_spec.specs.Models.{main_model, data_inputs}
use Rattle.netlist_spec.specs.Fits.{Valuation}
use Rattle.netlist_spec.specs.Values.{Forced}
use Rattle.netlist_spec.specs.Gates.{Machine, IsMachine, ForcedNets}
use Rattle.netlist_spec.specs.Written.{Named, label_name, net_name, file_of}
use Rattle.gate_net.specs.GateNet.{net_count}

abbrev pub named_machine : Named → Machine
named_machine g = record { net = g.net; inputs = g.data_inputs; latches = g.latches; outputs = g.outputs }

-- Each net has a name of its own, and the data inputs of the file are the first of them.
pub record HasOwnNames (g : Named) : Type 0 where
  pub machine : IsMachine (named_machine g)
  pub labels : length g.labels ≡ net_count g.net
  pub apart : IsTrue (are_distinct (map label_name g.labels))
  pub inputs : IsSomeAnd (main_model (file_of g)) (λ m. data_inputs m ≡ take g.data_inputs (map label_name g.labels))

-- the bits of nets, by name and by number
abbrev pub SameBits : Named → Valuation → (ℕ → Bool) → Type 0
SameBits g w v = (n : ℕ) → n < net_count g.net → w (net_name g n) ≡ v n

-- faults of nets, by name
abbrev pub named_faults : Named → ForcedNets → Forced
named_faults g faults = map (λ (e : ℕ × Bool). (net_name g e.0, e.1)) faults

abbrev pub AreFaultsOf : Named → ForcedNets → Type 0
AreFaultsOf g faults = AllByRecursion (λ (e : ℕ × Bool). e.0 < net_count g.net) faults
