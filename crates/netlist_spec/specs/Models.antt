-- What the lines of one model declare: its ports, latches, clock nets and data inputs.
use Rattle.std.specs.Prelude.{ℕ, Bool, true, false, ◌&&◌, ◌||◌, List, [], ◌∷◌, ◌++◌, map, filter, filter_map, not, Option, Some, None, ◌==◌, nat_lt, count_by}
use Rattle.std.specs.Bool.{beq}
use Rattle.std.specs.List.{flat_map}
use Rattle.netlist_spec.specs.Netlist.{Name, same_name, stands_in, Cover, Clocking, plain, edge, Statement, names, latch, Model, File}
use Rattle.netlist_spec.specs.Reads.{control_nets}
use Rattle.netlist_spec.specs.Placed.{port_names}

-- the first model of a file is the main one
abbrev pub first_model : List Model → Option Model
first_model [] = None
first_model (m ∷ ms) = Some m

abbrev pub main_model : File → Option Model
main_model file = first_model file.models

-- one `.latch`
pub record Latch : Type 0 where
  pub d : Name
  pub q : Name
  pub clocking : Clocking
  pub init : Option ℕ

abbrev pub as_latch : Statement → Option Latch
as_latch (latch d q clocking init) = Some (record { d = d; q = q; clocking = clocking; init = init })
as_latch _ = None

-- the latches in the order of their lines
abbrev pub latches_of : Model → List Latch
latches_of m = filter_map (λ s. as_latch s.what) m.statements

-- A latch starts at 1 for INIT 1 and at 0 otherwise.
abbrev pub init_bit : Option ℕ → Bool
init_bit (Some n) = n == 1
init_bit None = false

abbrev pub init_bits : Model → List Bool
init_bits m = map (λ l. init_bit l.init) (latches_of m)

-- INIT 2, 3 and a missing one are unknown.
abbrev pub is_unknown : Option ℕ → Bool
is_unknown None = true
is_unknown (Some n) = nat_lt 1 n

-- how many latches have an unknown init
abbrev pub unknown_inits : Model → ℕ
unknown_inits m = count_by (λ l. is_unknown l.init) (latches_of m)

-- The clock nets are the names of `.clock` and the controls of the latches other than `NIL`.
abbrev pub clock_nets : Model → List Name
clock_nets m = port_names m.clocks ++ flat_map (λ l. control_nets l.clocking) (latches_of m)

-- The data inputs are the names of `.inputs`, in order, without the clock nets.
abbrev pub data_inputs : Model → List Name
data_inputs m = filter (λ n. not (stands_in n (clock_nets m))) (port_names m.inputs)

-- the nets of the latches: what they show, and what they store
abbrev pub latch_outputs : Model → List Name
latch_outputs m = map (λ l. l.q) (latches_of m)

abbrev pub latch_inputs : Model → List Name
latch_inputs m = map (λ l. l.d) (latches_of m)

abbrev pub output_nets : Model → List Name
output_nets m = port_names m.outputs

-- one `.names` with its cover
pub record Gate : Type 0 where
  pub ins : List Name
  pub out : Name
  pub cover : Cover

abbrev pub as_gate : Statement → Option Gate
as_gate (names ins out cover) = Some (record { ins = ins; out = out; cover = cover })
as_gate _ = None

-- the `.names` in the order of their lines
abbrev pub gates_of : Model → List Gate
gates_of m = filter_map (λ s. as_gate s.what) m.statements

-- whether two latches have the same pair of TYPE and CONTROL, or both none
abbrev pub same_control : Option Name → Option Name → Bool
same_control None None = true
same_control (Some a) (Some b) = same_name a b
same_control None (Some b) = false
same_control (Some a) None = false

abbrev pub same_clocking : Clocking → Clocking → Bool
same_clocking plain plain = true
same_clocking (edge r c) (edge s d) = beq r s && same_control c d
same_clocking plain (edge s d) = false
same_clocking (edge r c) plain = false

abbrev pub first_clocking : List Latch → Clocking
first_clocking [] = plain
first_clocking (l ∷ ls) = l.clocking

-- a control is `NIL` or declared by `.inputs` or `.clock`
abbrev pub is_declared : Model → Clocking → Bool
is_declared m (edge rising (Some n)) = stands_in n (port_names m.inputs) || stands_in n (port_names m.clocks)
is_declared m _ = true
