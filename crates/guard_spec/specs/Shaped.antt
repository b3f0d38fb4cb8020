-- The shape of a guarded netlist.
use Rattle.std.specs.Prelude.{◌≡◌, ℕ, ◌≤◌, Bool, true, false, List, ◌++◌, length, map, not, Some, IsTrue, if◌then◌else◌, slice_get, filter}
use Rattle.std.specs.List.{flat_map, enumerate_from, range_with_len}
use Rattle.netlist_spec.specs.Netlist.{Name, Clocking, Statement, names, Model, File}
use Rattle.netlist_spec.specs.Placed.{port_names}
use Rattle.netlist_spec.specs.Models.{main_model, Latch, latches_of, latch_inputs, first_clocking, init_bits}
use Rattle.netlist_spec.specs.WrittenForm.{HasWrittenForm}
use Rattle.netlist_spec.specs.SourceRun.{Bits}
use Rattle.guard_spec.specs.Codes.{Code, encoded, rail_count}
use Rattle.guard_spec.specs.Words.{Settings, Words, Layout, IsLayout, bits_at}
use Rattle.guard_spec.specs.Plain.{IsSizeWith}
use Rattle.netlist_spec.specs.CellBits.{Bit, stands_before, IsBitOf, cells_of}
use Rattle.netlist_spec.specs.GuardNames.{store_name, next_name, check_name, rail_name}

-- the latches for one state word: `guard:s<w>:<i>` stores `guard:d<w>:<i>`, and starts at place i of the
-- codeword of the word's inits
abbrev pub latch_for : Clocking → ℕ → ℕ × Bool → Latch
latch_for clocking w place =
    record { d = next_name w place.0; q = store_name w place.0; clocking = clocking; init = Some (if place.1 then 1 else 0) }

abbrev pub latches_for : Code → Clocking → Bits → ℕ × List ℕ → List Latch
latches_for code clocking inits word =
    map (latch_for clocking word.0) (enumerate_from 0 (encoded code (bits_at word.1 inits)))

-- the latches of a guard, by word and then by place
abbrev pub guard_latches : Code → Clocking → Bits → Words → List Latch
guard_latches code clocking inits words = flat_map (latches_for code clocking inits) (enumerate_from 0 words)

-- the check outputs, by word and then by column
abbrev pub check_outputs : Code → Words → List Name
check_outputs code words =
    flat_map (λ (word : ℕ × List ℕ). map (check_name word.0) (range_with_len 0 code.columns)) (enumerate_from 0 words)

abbrev pub rail_outputs : ℕ → List Name
rail_outputs count = map rail_name (range_with_len 0 count)

-- Of two `.names`, the bit of the later one doesn't stand before that of the earlier one. Bits stand by number: the latch
-- places, then the source outputs, the check outputs and the rails. With i and j equal this says that a cell doesn't have
-- two bits.
abbrev pub NeverBack : Model → List Statement → Type 0
NeverBack m cells =
    (i j : ℕ) (a b : Statement) (one other : Bit) → i ≤ j → slice_get cells i ≡ Some a → slice_get cells j ≡ Some b
    → IsBitOf m a one → IsBitOf m b other → IsTrue (not (stands_before other one))

abbrev pub is_gate : Statement → Bool
is_gate (names ins out cover) = true
is_gate _ = false

abbrev pub gate_cells : Model → List Statement
gate_cells m = filter is_gate (cells_of m)

-- The shape that a guard with so many rails has for a source's main model and a layout.
pub record HasShape (g m : Model) (code : Code) (l : Layout) (rails : ℕ) : Type 0 where
  pub name : g.name ≡ m.name
  pub inputs : port_names g.inputs ≡ port_names m.inputs
  pub clocks : port_names g.clocks ≡ port_names m.clocks
  -- the source's outputs in order, the check outputs, and then the rails
  pub outputs : port_names g.outputs ≡ port_names m.outputs ++ check_outputs code l.output ++ rail_outputs rails
  -- exactly the latches of the words, with the source's clocking
  pub latches : latches_of g ≡ guard_latches code (first_clocking (latches_of m)) (init_bits m) l.state
  -- the cells stand by their bits: latch places, source outputs, check outputs, rails
  pub order : NeverBack g (gate_cells g)
  -- each is written for a gate, and only outputs and D nets have names that aren't `guard:n0`, `guard:n1`, ..
  pub form : HasWrittenForm g (port_names g.outputs ++ latch_inputs g)

-- G has the shape of a guard of the source for these settings, with so many rails, and its cells are no more than a
-- size that holds of the source's main model and the layout.
pub record IsShapedBy (g source : File) (s : Settings) (rails : ℕ) (Size : Model → Layout → ℕ → Type 0) : Type 0 where
  pub guard_model : Model
  pub is_guard_model : main_model g ≡ Some guard_model
  pub source_model : Model
  pub is_source_model : main_model source ≡ Some source_model
  pub layout : Layout
  pub is_layout : IsLayout source_model s layout
  pub shape : HasShape guard_model source_model s.code layout rails
  pub size : ℕ
  pub is_size : Size source_model layout size
  -- latches are cells too
  pub small : length (cells_of guard_model) ≤ size

-- The guard has the rails that the mode and the bound ask for, and at most the size of one that reads its state within a
-- radius.
abbrev pub IsShapedWithin : File → File → Settings → ℕ → Type 0
IsShapedWithin g source s radius =
    IsShapedBy g source s (rail_count s.mode s.bound)
    (λ m l n. IsSizeWith source s.library m s.code s.mode radius (rail_count s.mode s.bound) l n)

-- The size is the plain size for the settings.
abbrev pub IsShaped : File → File → Settings → Type 0
IsShaped g source s = IsShapedWithin g source s s.bound
