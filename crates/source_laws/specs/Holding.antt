-- What a valuation that fits a model owes to each statement.
use Rattle.std.specs.Prelude.{◌≡◌, ◌↔◌, List, map, ⊤}
use Rattle.std.specs.List.{AllByRecursion}
use Rattle.netlist_spec.specs.Netlist.{Name, Bind, Statement, names, latch, subckt, Model, File}
use Rattle.netlist_spec.specs.Covers.{Table, Linear, Library, cover_value, table_value, linear_value}
use Rattle.netlist_spec.specs.Placed.{a_model, a_table, a_linear, placed, input_ports, output_ports}
use Rattle.netlist_spec.specs.Fits.{Valuation, port_bits, OutputsHave, BindsAgree, Fits}
use Rattle.netlist_spec.specs.Sound.{drives, reads, PlacesWell}
use Rattle.source_laws.specs.Agreement.{AgreeOn}

-- A `.subckt` is met where what it places gives its output ports their bits.
pub data PlacedFits (file : File) (library : Library) (name : Name) (binds : List Bind) (v : Valuation) : Type 0 where
  by_table : (t : Table) → placed file library name ≡ a_table t
      → OutputsHave v binds (output_ports (a_table t)) (table_value t (port_bits v binds (input_ports (a_table t)))) → PlacedFits file library name binds v
  by_linear : (l : Linear) → placed file library name ≡ a_linear l
      → OutputsHave v binds (output_ports (a_linear l)) (linear_value l (port_bits v binds (input_ports (a_linear l)))) → PlacedFits file library name binds v
  by_model : (k : Model) (inside : Valuation) → placed file library name ≡ a_model k → Fits file library k inside → BindsAgree inside v binds → PlacedFits file library name binds v

-- The valuation meets the statement.
abbrev pub Holds : File → Library → Valuation → Statement → Type 0
Holds file library v (names ins out cover) = v out ≡ cover_value cover (map v ins)
Holds file library v (latch d q clocking init) = ⊤
Holds file library v (subckt name binds) = PlacedFits file library name binds v

module _ (file : File) (library : Library) where
  -- A valuation fits a model exactly where it meets each statement.
  abbrev pub FitsWhereEachHolds : Model → Valuation → Type 0
  FitsWhereEachHolds m v = Fits file library m v ↔ AllByRecursion (Holds file library v) (map (λ l. l.what) m.statements)

  -- Whether it meets a statement rests on the nets that the statement reads and drives.
  abbrev pub HoldingIsLocal : Statement → Valuation → Valuation → Type 0
  HoldingIsLocal s v w =
      PlacesWell file library s → AgreeOn v w (reads file library s) → AgreeOn v w (drives file library s) → Holds file library v s → Holds file library w s
