-- How latches are clocked, statement by statement.
use Rattle.std.specs.Prelude.{◌≡◌, ◌&&◌, ◌++◌, Bool, List, All, Option, None, option_map, find, filter, filter_map, not}
use Rattle.std.specs.Bool.{then_some}
use Rattle.netlist_spec.specs.Netlist.{Name, stands_in, Statement, names, latch, subckt, Located, Model}
use Rattle.netlist_spec.specs.Placed.{port_names}
use Rattle.netlist_spec.specs.Models.{as_latch, latches_of, first_clocking, same_clocking, is_declared, clock_nets}
use Rattle.netlist_spec.specs.Sound.{is_clocked}
use Rattle.blif_read.specs.declared.file.Clocking.{Clocking as ReadClocking}
use Rattle.blif_read.specs.Ids.{IsIdOf, control_ids}
use Rattle.blif_read.specs.View.{clocking_of}
use Rattle.line_order.specs.Marks.{Marks}

-- what the test of a latch is given: the first latch's clocking, and the marks of what is declared
pub record IsClockedBy (m : Model) (clocking : ReadClocking) (marks : List Bool) : Type 0 where
  pub declared : Marks m.names marks (port_names m.inputs ++ port_names m.clocks)
  pub first : clocking_of m.names clocking ≡ first_clocking (latches_of m)
  pub control : All (IsIdOf m.names) (control_ids clocking)

-- the output of a latch that is clocked otherwise than the first one of the model, or by a control that isn't declared
abbrev pub odd_output : Model → Statement → Option Name
odd_output m (latch d q clocking init) = then_some (not (same_clocking clocking (first_clocking (latches_of m)) && is_declared m clocking)) q
odd_output m (names ins out cover) = None
odd_output m (subckt name binds) = None

-- the first of these among some statements of the model
abbrev pub odd_among : Model → List Located → Option Name
odd_among m ss = option_map (λ l. l.q) (find (λ l. not (is_clocked m l)) (filter_map (λ s. as_latch s.what) ss))

-- the first clock net among some nets, those of `.inputs` before those of `.clock`
abbrev pub read_clock_of : Model → List Name → Option Name
read_clock_of m nets =
    find (λ n. stands_in n nets) (filter (λ n. stands_in n (clock_nets m)) (port_names m.inputs) ++ port_names m.clocks)
