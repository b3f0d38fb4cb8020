-- What gates that are appended for a model in place are.
use Rattle.std.specs.Prelude.{◌≡◌, ℕ, ◌+◌, ◌^◌, ◌<◌, ◌≤◌, List, length, map, IsTrue, sum_by}
use Rattle.std.specs.List.{AllByRecursion, flat_map}
use Rattle.netlist_spec.specs.Netlist.{Statement, Model, File}
use Rattle.netlist_spec.specs.FileRules.{IsFile}
use Rattle.netlist_spec.specs.Covers.{Library}
use Rattle.netlist_spec.specs.Placed.{a_model, input_ports}
use Rattle.netlist_spec.specs.Size.{cost_of}
use Rattle.netlist_spec.specs.Sound.{combines, drives as driven_by, Chain, IsMain, IsUsed, IsSound}
use Rattle.netlist_spec.specs.Gates.{GateList, AnswersWithin}
use Rattle.gate_net.specs.GateNet.{net_count}
use Rattle.reduction.specs.Appended.{Extends, IsAppended, ReadsInputsAlone}
use Rattle.source_laws.specs.Costs.{statements_of}
use Rattle.source_laws.specs.Nets.{NetsFit}
use Rattle.source_nets.specs.declared.types.Source.{Source}
use Rattle.source_nets.specs.Ports.{IsSource, source_file, source_library}
use Rattle.source_check.specs.declared.types.Checked.{Checked}
use Rattle.source_check.specs.Checked.{IsChecked}
use Rattle.lowering.specs.Nets.{net_in}
use Rattle.lowering.specs.Lowers.{CanLower}

-- a sound source, with all that its check found
pub record IsReady (source : Source) (checked : Checked) : Type 0 where
  pub ready : IsSource source
  pub is_file : IsFile (source_file source)
  pub sound : IsSound (source_file source) (source_library source)
  pub found : IsChecked (source_file source) (source_library source) checked

-- No chain of `.subckt` from the model has more steps.
abbrev pub IsShallow : File → Model → ℕ → Type 0
IsShallow file m steps = (c : Model) (n : ℕ) → Chain file n m c → n ≤ steps

-- What a statement of a used model needs, so that gates can be appended for it and for all that it places.
pub record CanLowerAll (file : File) (library : Library) (m : Model) (s : Statement) (steps : ℕ) (old : GateList) (table : List ℕ) : Type 0 where
  pub used : IsUsed file m
  pub combines : IsTrue (combines s)
  pub shallow : IsShallow file m steps
  pub can : CanLower file library m.names s old table

-- What a used model other than the main one needs, so that gates can be appended for it: a table with a place for each of its
-- names, in which its input ports have nets, and room for what its statements cost.
pub record CanLowerModel (file : File) (library : Library) (m : Model) (steps : ℕ) (old : GateList) (table : List ℕ) : Type 0 where
  pub used : IsUsed file m
  pub inside : IsMain file m → ⊥
  pub shallow : IsShallow file m steps
  pub size : length table ≡ length m.names
  pub known : AllByRecursion (λ n. net_in m.names table n < net_count old) (input_ports (a_model m))
  pub room : net_count old + sum_by (cost_of file library) (statements_of m) ≤ 2 ^ 23

-- Gates are appended for a model. They are no more than its statements cost, and read the nets of its input ports and each
-- other. The table has the nets of its names, those of what its statements drive among the appended ones. Where the gates
-- answer, these nets fit the model.
pub record LowersModel (file : File) (library : Library) (m : Model) (old : GateList) (table : List ℕ) (new : GateList) (noted : List ℕ) : Type 0 where
  pub extends : Extends old new
  pub cost : net_count new ≤ net_count old + sum_by (cost_of file library) (statements_of m)
  pub reads : ReadsInputsAlone old new (map (net_in m.names table) (input_ports (a_model m)))
  pub size : length noted ≡ length table
  pub inputs : AllByRecursion (λ n. net_in m.names noted n ≡ net_in m.names table n) (input_ports (a_model m))
  pub driven : AllByRecursion (λ n. IsAppended old new (net_in m.names noted n)) (flat_map (driven_by file library) (statements_of m))
  pub fits : NetsFit file library (AnswersWithin new (net_count old) (net_count new)) m (net_in m.names noted)
