-- A guard in detection as its builder leaves it: leaves, cells of bits one behind the other, and rails.
use Rattle.std.specs.Prelude.{◌≡◌, ℕ, ◌+◌, ◌*◌, ◌<◌, ◌≤◌, List, [], ◌∷◌, ◌++◌, length, map, nat_lt, if◌then◌else◌}
use Rattle.std.specs.List.{AllZip, flat_map, range_with_len, zip}
use Rattle.netlist_spec.specs.Gates.{GateList, Machine, IsGateList}
use Rattle.netlist_spec.specs.CellBits.{latch_bit, output_bit}
use Rattle.netlist_spec.specs.GateRanges.{Region}
use Rattle.guard_spec.specs.Codes.{Code}
use Rattle.guard_spec.specs.Plain.{rail_cost}
use Rattle.guard_spec.specs.Regions.{Guarded}
use Rattle.guard_spec.specs.Words.{Layout, codewords}
use Rattle.gate_net.specs.GateNet.{net_count}
use Rattle.gate_net.specs.Words.{nets_of}
use Rattle.cone_split.specs.Ranges.{KeepsGates}
use Rattle.alarm_rails.specs.Rail.{SomeIsNone}
use Rattle.guard_laws.specs.Places.{AreDataPlaces, latches_of_words}
use Rattle.guard_laws.specs.Rows.{IsRailRange, IsRangeOf}
use Rattle.guard_laws.specs.Watched.{watched_words}
use Rattle.guard_cells.specs.Cells.{AreCells, Cell, GivesCosts, ranges_from, words_cost}

-- cells of latches, and of outputs from number `first` on
abbrev pub latch_cells : List ℕ → List Cell
latch_cells nets = zip (map (λ i. latch_bit i) (range_with_len 0 (length nets))) nets

abbrev pub output_cells : ℕ → List ℕ → List Cell
output_cells first nets = zip (map (λ i. output_bit i) (range_with_len first (length nets))) nets

-- the same without the outputs that are leaves
abbrev pub gate_output_cells : ℕ → ℕ → List ℕ → List Cell
gate_output_cells leaves first [] = []
gate_output_cells leaves first (n ∷ ns) =
    if nat_lt n leaves then gate_output_cells leaves (first + 1) ns else (output_bit first, n) ∷ gate_output_cells leaves (first + 1) ns

-- An output that is a data input is passed on, and another one has a gate of its own.
pub record IsShown (inputs leaves o n : ℕ) : Type 0 where
  pub passed : o < inputs → n ≡ o
  pub own : inputs ≤ o → leaves ≤ n

-- The nets of the guard's outputs: those of the source, check bits and rails.
pub record OutputNets : Type 0 where
  pub shown : List ℕ
  pub checks : List ℕ
  pub rails : List ℕ

-- the cells in front of the rails
abbrev pub word_cells : Machine → OutputNets → List Cell
word_cells g o =
    latch_cells (map (λ r. r.d) g.latches) ++ gate_output_cells g.net.leaves 0 o.shown ++ output_cells (length o.shown) o.checks

abbrev pub rail_cells_of : OutputNets → List Cell
rail_cells_of o = output_cells (length o.shown + length o.checks) o.rails

-- the guard's machine with its regions
abbrev pub guarded : Machine → OutputNets → Guarded
guarded g o =
    record {
      machine = g;
      rails = length o.rails;
      regions = ranges_from g.net.leaves (word_cells g o ++ rail_cells_of o);
    }

-- a rail over the words that the guard shows
abbrev pub IsRailOf : Machine → Code → Layout → (p : ℕ) → GateList → Region → Type 0
IsRailOf g code l p net r =
    IsRailRange net (flat_map nets_of (watched_words g code l p)) (SomeIsNone code (watched_words g code l p)) r

-- The machine g is made as a guard of the machine m, with so many rails.
pub record IsMade (m : Machine) (code : Code) (l : Layout) (rails : ℕ) (g : Machine) : Type 0 where
  -- leaves
  pub gates : IsGateList g.net
  pub inputs : g.inputs ≡ m.inputs
  pub leaves : g.net.leaves ≡ m.inputs + latches_of_words code l.state
  pub places : List ℕ
  pub are_places : AreDataPlaces code l.state m.inputs (length m.latches) places
  -- latches
  pub latches : length g.latches ≡ latches_of_words code l.state
  pub inits : map (λ r. r.init) g.latches ≡ codewords code l.state (map (λ r. r.init) m.latches)
  -- outputs
  pub nets : OutputNets
  pub outputs : g.outputs ≡ nets.shown ++ nets.checks ++ nets.rails
  pub shown : AllZip (IsShown m.inputs g.net.leaves) m.outputs nets.shown
  pub checks : length nets.checks ≡ length l.output * code.columns
  pub rail_number : length nets.rails ≡ rails
  -- gates: those in front of the rails, and then the rails
  pub front : GateList
  pub kept : KeepsGates front g.net
  pub words : AreCells (λ net r. IsRangeOf net (range_with_len 0 m.inputs ++ places) m code l r) g.net.leaves (word_cells g nets) front
  pub alarms : AreCells (IsRailOf g code l (length m.outputs)) (net_count front) (rail_cells_of nets) g.net
  -- and no more of them than the bits and rails cost
  pub few : (cost : ℕ → ℕ) → GivesCosts m cost
      → length g.net.gates ≤ words_cost cost code (map (λ r. r.d) m.latches) l.state + words_cost cost code m.outputs l.output + rails * rail_cost code l
