-- The form of the cells in a written netlist.
use Rattle.std.specs.Prelude.{◌≡◌, List, length, map, filter, not}
use Rattle.std.specs.List.{AllByRecursion, range_with_len}
use Rattle.netlist_spec.specs.Netlist.{Name, stands_in, Model}
use Rattle.netlist_spec.specs.Models.{Gate, gates_of}
use Rattle.netlist_spec.specs.Gates.{GateForm, gate_reads, gate_cover}
use Rattle.netlist_spec.specs.GuardNames.{inner_name}

-- The cover is one that is written for a gate: a constant, a copy, an inverse or a table of two nets. Its rows are the
-- gate's, in the order of the gate's table, and it reads as many nets as the gate.
pub record HasGateForm (gate : Gate) : Type 0 where
  pub form : GateForm
  pub reads : length gate.ins ≡ length (gate_reads form)
  pub cover : gate.cover ≡ gate_cover form

-- the outputs of the cells that are none of the named nets, in file order
abbrev pub inner_outputs : Model → List Name → List Name
inner_outputs m named = filter (λ n. not (stands_in n named)) (map (λ g. g.out) (gates_of m))

-- Each `.names` is written for a gate, and those whose outputs aren't among the named nets have the outputs `guard:n0`,
-- `guard:n1`, .. in file order.
pub record HasWrittenForm (m : Model) (named : List Name) : Type 0 where
  pub gates : AllByRecursion HasGateForm (gates_of m)
  pub inner : inner_outputs m named ≡ map inner_name (range_with_len 0 (length (inner_outputs m named)))
