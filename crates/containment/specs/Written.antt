-- The file that a guard's gate list is written as.
use Rattle.std.specs.Prelude.{◌≡◌, ℕ, suc, ◌+◌, ◌≤◌, List, [], ◌∷◌, length, map, take, cond, Some, slice_get, IsSomeAnd, IsTrue}
use Rattle.netlist_spec.specs.Netlist.{Name, same_name, are_distinct, Model, File}
use Rattle.netlist_spec.specs.Covers.{Library}
use Rattle.netlist_spec.specs.Models.{main_model, data_inputs}
use Rattle.netlist_spec.specs.SourceRun.{Bits, Stream}
use Rattle.netlist_spec.specs.Runs.{Fault, Run}
use Rattle.netlist_spec.specs.Gates.{Machine, IsMachine, NetFault, GateRun}
use Rattle.guard_spec.specs.Codes.{Code, IsCode, IsDistance, correct, needed_distance, rail_count}
use Rattle.guard_spec.specs.Words.{Settings, Layout}
use Rattle.netlist_spec.specs.Ordered.{IsOrdered}
use Rattle.netlist_spec.specs.CellBits.{IsIndependent, is_rail_name}
use Rattle.guard_spec.specs.Shaped.{IsShapedWithin, NeverBack, gate_cells}
use Rattle.netlist_spec.specs.Elaborated.{IsMachineOf}
use Rattle.guard_spec.specs.Regions.{Guarded, CoversGates, HaveOwnNets, AreSeparate}
use Rattle.guard_spec.specs.Rails.{IsFarWord, IsNoCodeword, RailsTell, FarRailsTell, RailsTellIn}
use Rattle.guard_spec.specs.Dual.{dual_distance, IsDualShaped}
use Rattle.netlist_spec.specs.Written.{Named, label_name, net_name, file_of}
use Rattle.containment.specs.Built.{IsBuilt}

-- a fault of the file as one of the gate list, where `net` numbers the names
abbrev pub net_faults : (Name → ℕ) → List Fault → List NetFault
net_faults net faults = map (λ a. record { cycle = a.cycle; cell = net a.cell; bit = a.bit }) faults

-- The file's runs under every fault list are runs of the gate list under the same faults.
pub record IsWritten (file : File) (machine : Machine) (net : Name → ℕ) : Type 0 where
  pub runs : (xs : Stream) (faults : List Fault) (states outs : List Bits) → Run file xs faults states outs → GateRun machine xs (net_faults net faults) states outs

-- The file is a guard's text, and the source means the machine for which the guard was built.
pub record StandsForGates (file source : File) (library : Library) (m : Model) (machine : Machine) (g : Guarded) : Type 0 where
  pub net : Name → ℕ
  pub is_main : main_model source ≡ Some m
  pub means : IsMachineOf source library m machine
  pub written : IsWritten file g.machine net

-- the place of a name in a list, or the length of the list
abbrev pub place_in : List Name → Name → ℕ
place_in [] n = 0
place_in (m ∷ ms) n = cond (same_name n m) 0 (suc (place_in ms n))

-- The machine of a gate list with names, and the number of a net's name.
abbrev pub machine_of : Named → Machine
machine_of g = record { net = g.net; inputs = g.data_inputs; latches = g.latches; outputs = g.outputs }

abbrev pub net_of : Named → Name → ℕ
net_of g = place_in (map label_name g.labels)

-- Each net has a name of its own, and the data inputs of the file are the first of them.
pub record IsWellNamed (g : Named) : Type 0 where
  pub leaves : g.net.leaves ≡ g.data_inputs + length g.latches
  pub labels : length g.labels ≡ g.net.leaves + length g.net.gates
  pub apart : IsTrue (are_distinct (map label_name g.labels))
  pub inputs : IsSomeAnd (main_model (file_of g)) (λ m. data_inputs m ≡ take g.data_inputs (map label_name g.labels))

-- The last outputs, which are the rails, have names of rails.
abbrev pub NamesRails : Named → ℕ → Type 0
NamesRails n rails = (i o : ℕ) → slice_get n.outputs i ≡ Some o → length n.outputs ≤ i + rails → IsTrue (is_rail_name (net_name n o))

-- A gate list with separate regions and with names: what the builder and the naming promise together.
pub record IsNamedGuard (n : Named) (g : Guarded) (source : Machine) : Type 0 where
  pub names : IsWellNamed n
  pub same : machine_of n ≡ g.machine
  pub rail_names : NamesRails n g.rails
  pub is_machine : IsMachine g.machine
  pub covers : CoversGates g
  pub own_nets : HaveOwnNets g source
  pub separate : AreSeparate g

-- The text is independent, its cells stand in the order of their bits, and its rails tell what they tell on gates.
pub record IsSeparateText (n : Named) (g : Guarded) : Type 0 where
  pub independent : IsIndependent (file_of n)
  pub in_order : IsSomeAnd (main_model (file_of n)) (λ m. NeverBack m (gate_cells m))
  pub rails : (code : Code) (l : Layout) (p : ℕ) → RailsTell g code l p
      → IsSomeAnd (main_model (file_of n)) (λ m. RailsTellIn m code l p g.rails (IsNoCodeword code))
  pub far_rails : (code : Code) (l : Layout) (p t : ℕ) → FarRailsTell g code l p t
      → IsSomeAnd (main_model (file_of n)) (λ m. RailsTellIn m code l p g.rails (IsFarWord code t))

-- The file is the text of a gate list that was built for the source by these settings, with state words read within a
-- radius: a shaped, ordered and independent file, a code of the distance that the mode asks for with this radius, a
-- gate list with the rails that the mode asks for with the bound, and rails that tell.
pub record IsBuiltText (file source : File) (s : Settings) (radius : ℕ) : Type 0 where
  pub ordered : IsOrdered file
  pub independent : IsIndependent file
  pub shaped : IsShapedWithin file source s radius
  pub is_code : IsCode s.code
  pub d : ℕ
  pub is_distance : IsDistance s.code d
  pub wide : needed_distance s.mode radius ≤ d
  pub machine : Machine
  pub g : Guarded
  pub stands : StandsForGates file source s.library shaped.source_model machine g
  pub built : IsBuilt g machine s.code s.mode radius shaped.layout
  pub rails : g.rails ≡ rail_count s.mode s.bound
  pub tells : RailsTell g s.code shaped.layout (length machine.outputs)

-- The same for a guard that corrects as many faulty cells as the bound says and tells of s.
pub record IsBuiltDualText (file source : File) (settings : Settings) (s : ℕ) : Type 0 where
  pub ordered : IsOrdered file
  pub independent : IsIndependent file
  pub shaped : IsDualShaped file source settings s
  pub is_code : IsCode settings.code
  pub d : ℕ
  pub is_distance : IsDistance settings.code d
  pub more : settings.bound ≤ s
  pub wide : dual_distance settings.bound s ≤ d
  pub machine : Machine
  pub g : Guarded
  pub stands : StandsForGates file source settings.library shaped.source_model machine g
  pub built : IsBuilt g machine settings.code correct settings.bound shaped.layout
  pub rails : g.rails ≡ s + 1
  pub tells : FarRailsTell g settings.code shaped.layout (length machine.outputs) settings.bound
  pub tells_in : RailsTellIn shaped.guard_model settings.code shaped.layout (length machine.outputs) g.rails (IsFarWord settings.code settings.bound)
