-- Which nets of a gate list stand for the nets of a model: as in a valuation that fits, with nets in place of bits.
use Rattle.std.specs.Prelude.{◌≡◌, ◌↔◌, ℕ, ◌+◌, Bool, List, [], ◌∷◌, length, map, Option}
use Rattle.std.specs.List.{AllByRecursion, range_with_len}
use Rattle.netlist_spec.specs.Netlist.{Name, Bind, Cover, Clocking, Statement, names, latch, subckt, Model, File}
use Rattle.netlist_spec.specs.Covers.{Table, Linear, Library, cover_value, table_value, linear_value}
use Rattle.netlist_spec.specs.Placed.{a_model, a_table, a_linear, placed, input_ports, output_ports}
use Rattle.netlist_spec.specs.Models.{data_inputs, latch_inputs, latch_outputs, output_nets}
use Rattle.netlist_spec.specs.Fits.{Valuation, port_bits, OutputsHave, Fits}
use Rattle.netlist_spec.specs.SourceRun.{Bits}
use Rattle.netlist_spec.specs.Sound.{drives, reads, PlacesWell, IsMain, IsSound}
use Rattle.netlist_spec.specs.Gates.{Machine, AnswersWithin, GateValues}
use Rattle.source_laws.specs.Lowered.{HasBitsOf}

-- A number for each name. What it gives to names that are no nets is not read.
abbrev pub Nets : Type 0
Nets = Name → ℕ

-- the bits of the nets, by name
abbrev pub bits_at : (ℕ → Bool) → Nets → Valuation
bits_at v nets = λ n. v (nets n)

-- Each bound port is the net of its actual.
abbrev pub BindsMatch : Nets → Nets → List Bind → Type 0
BindsMatch inside outside binds = AllByRecursion (λ b. inside b.formal ≡ outside b.actual) binds

mutual
  -- The nets fit the model: in each valuation in which the gates answer, they have the bits that its statements ask for.
  pub data NetsFit (file : File) (library : Library) (Answer : (ℕ → Bool) → Type 0) : Model → Nets → Type 0 where
    nets_fit : {m : Model} {nets : Nets} → NetsFitEach file library Answer (map (λ s. s.what) m.statements) nets → NetsFit file library Answer m nets

  pub data NetsFitEach (file : File) (library : Library) (Answer : (ℕ → Bool) → Type 0) : List Statement → Nets → Type 0 where
    no_statement : {nets : Nets} → NetsFitEach file library Answer [] nets
    net_of_names : {ins : List Name} {out : Name} {cover : Cover} {rest : List Statement} {nets : Nets}
        → ((v : ℕ → Bool) → Answer v → v (nets out) ≡ cover_value cover (map v (map nets ins)))
        → NetsFitEach file library Answer rest nets
        → NetsFitEach file library Answer (names ins out cover ∷ rest) nets
    net_of_latch : {d q : Name} {clocking : Clocking} {init : Option ℕ} {rest : List Statement} {nets : Nets}
        → NetsFitEach file library Answer rest nets
        → NetsFitEach file library Answer (latch d q clocking init ∷ rest) nets
    nets_of_table : {name : Name} {binds : List Bind} {rest : List Statement} {nets : Nets} (t : Table)
        → placed file library name ≡ a_table t
        → ((v : ℕ → Bool) → Answer v → OutputsHave (bits_at v nets) binds (output_ports (a_table t)) (table_value t (port_bits (bits_at v nets) binds (input_ports (a_table t)))))
        → NetsFitEach file library Answer rest nets
        → NetsFitEach file library Answer (subckt name binds ∷ rest) nets
    nets_of_linear : {name : Name} {binds : List Bind} {rest : List Statement} {nets : Nets} (l : Linear)
        → placed file library name ≡ a_linear l
        → ((v : ℕ → Bool) → Answer v → OutputsHave (bits_at v nets) binds (output_ports (a_linear l)) (linear_value l (port_bits (bits_at v nets) binds (input_ports (a_linear l)))))
        → NetsFitEach file library Answer rest nets
        → NetsFitEach file library Answer (subckt name binds ∷ rest) nets
    -- The placed model has nets that fit it, and each bound port is the net of its actual.
    nets_of_model : {name : Name} {binds : List Bind} {rest : List Statement} {nets : Nets} (m : Model) (inside : Nets)
        → placed file library name ≡ a_model m
        → NetsFit file library Answer m inside
        → BindsMatch inside nets binds
        → NetsFitEach file library Answer rest nets
        → NetsFitEach file library Answer (subckt name binds ∷ rest) nets

-- The nets meet the statement.
abbrev pub NetsHold : File → Library → ((ℕ → Bool) → Type 0) → Nets → Statement → Type 0
NetsHold file library Answer nets s = NetsFitEach file library Answer (s ∷ []) nets

module _ (file : File) (library : Library) where
  -- Nets fit a model exactly where they meet each statement.
  abbrev pub NetsFitWhereEachHolds : ((ℕ → Bool) → Type 0) → Model → Nets → Type 0
  NetsFitWhereEachHolds Answer m nets = NetsFit file library Answer m nets ↔ AllByRecursion (NetsHold file library Answer nets) (map (λ l. l.what) m.statements)

  -- Whether they meet a statement rests on the names that the statement reads and drives.
  abbrev pub NetsHoldingIsLocal : ((ℕ → Bool) → Type 0) → Statement → (nets other : Nets) → Type 0
  NetsHoldingIsLocal Answer s nets other =
      PlacesWell file library s → AllByRecursion (λ n. nets n ≡ other n) (reads file library s) → AllByRecursion (λ n. nets n ≡ other n) (drives file library s)
      → NetsHold file library Answer nets s → NetsHold file library Answer other s

  -- Nets that fit go on to fit where more gates answer.
  abbrev pub NetsFitWithMoreGates : ((ℕ → Bool) → Type 0) → ((ℕ → Bool) → Type 0) → Model → Nets → Type 0
  NetsFitWithMoreGates Answer More m nets = ((v : ℕ → Bool) → More v → Answer v) → NetsFit file library Answer m nets → NetsFit file library More m nets

  -- the same for one statement
  abbrev pub NetsHoldWithMoreGates : ((ℕ → Bool) → Type 0) → ((ℕ → Bool) → Type 0) → Nets → Statement → Type 0
  NetsHoldWithMoreGates Answer More nets s = ((v : ℕ → Bool) → More v → Answer v) → NetsHold file library Answer nets s → NetsHold file library More nets s

  -- The bits of nets that fit are a valuation that fits.
  abbrev pub BitsOfFittingNetsFit : ((ℕ → Bool) → Type 0) → Model → Nets → (ℕ → Bool) → Type 0
  BitsOfFittingNetsFit Answer m nets v = NetsFit file library Answer m nets → Answer v → Fits file library m (bits_at v nets)

  -- A machine whose nets fit the main model has in each cycle the bits of a valuation of it.
  abbrev pub FittingMachinesHaveBits : Model → Machine → Nets → Type 0
  FittingMachinesHaveBits m machine nets =
      IsSound file library → IsMain file m
      → NetsFit file library (AnswersWithin machine.net machine.net.leaves (machine.net.leaves + length machine.net.gates)) m nets
      → map nets (data_inputs m) ≡ range_with_len 0 machine.inputs → map nets (latch_outputs m) ≡ range_with_len machine.inputs (length machine.latches)
      → map nets (output_nets m) ≡ machine.outputs → map nets (latch_inputs m) ≡ map (λ r. r.d) machine.latches
      → (x s : Bits) (v : ℕ → Bool) → GateValues machine s x [] v → HasBitsOf file library m machine x s v
