-- What the steps of the builder leave: cells of words, of outputs and of check outputs, each behind those in front of it.
use Rattle.std.specs.Prelude.{◌≡◌, ℕ, ◌+◌, ◌*◌, ◌<◌, ◌≤◌, List, [], ◌∷◌, ◌++◌, length, map, Some, slice_get, slice_set, sum, sum_by}
use Rattle.std.specs.List.{AllByRecursion, AllZip, enumerate_from, flat_map, range_with_len, zip}
use Rattle.netlist_spec.specs.Gates.{GateList, LatchRow, Machine}
use Rattle.netlist_spec.specs.CellBits.{latch_bit}
use Rattle.guard_spec.specs.Codes.{Code, IsCode}
use Rattle.guard_spec.specs.Plain.{word_cost}
use Rattle.guard_spec.specs.Words.{Words, Layout, codewords}
use Rattle.gate_net.specs.GateNet.{net_count}
use Rattle.gate_net.specs.Words.{WordNets, nets_of}
use Rattle.cone_split.specs.Ranges.{KeepsGates}
use Rattle.alarm_rails.specs.Rail.{SomeIsNone, rail_cells}
use Rattle.guard_laws.specs.Places.{AreDataPlaces, latches_of_words}
use Rattle.guard_laws.specs.Rows.{IsRailRange, IsRangeOf}
use Rattle.guard_laws.specs.Watched.{output_nets_of, state_nets}
use Rattle.guard_cells.specs.Cells.{AreCells, Cell, GivesCosts, bit_costs, checks_cost, nets_at, words_cost}
use Rattle.guard_made.specs.Made.{IsShown, gate_output_cells, latch_cells, output_cells}

-- ---- leaves

-- the nets of the places of a word, the first of them net `at`, put at the word's numbers
abbrev pub put_word : ℕ → List ℕ → List ℕ → List ℕ
put_word at [] nets = nets
put_word at (j ∷ word) nets = put_word (at + 1) word (slice_set nets j at)

-- the same for words, each with so many check places
abbrev pub put_words : ℕ → ℕ → Words → List ℕ → List ℕ
put_words columns at [] nets = nets
put_words columns at (w ∷ words) nets = put_words columns (at + length w + columns) words (put_word at w nets)

-- Nets that stand for the leaves of a source, all of them below a count: its data inputs, and the data place of each latch.
pub record HasLeaves (m : Machine) (code : Code) (l : Layout) (leaf : List ℕ) (count : ℕ) : Type 0 where
  pub places : List ℕ
  pub are_places : AreDataPlaces code l.state m.inputs (length m.latches) places
  pub are : leaf ≡ range_with_len 0 m.inputs ++ places
  pub long : length leaf ≡ m.net.leaves
  pub all : count ≡ m.inputs + latches_of_words code l.state
  pub below : AllByRecursion (λ n. n < count) leaf

-- ---- state words

-- the nets that the latches of a machine store
abbrev pub stores_of : Machine → List ℕ
stores_of m = map (λ r. r.d) m.latches

-- cells of latches from number `first` on
abbrev pub latch_cells_from : ℕ → List ℕ → List Cell
latch_cells_from first nets = zip (map (λ i. latch_bit i) (range_with_len first (length nets))) nets

-- The cells are right for the source, in the order in which they stand.
abbrev pub AreRight : Machine → Code → Layout → List ℕ → ℕ → List Cell → GateList → Type 0
AreRight m code l leaf first cells net = AreCells (λ net r. IsRangeOf net leaf m code l r) first cells net

-- The places of one state word came to a list of gates, and their nets to the cells.
pub record GainsWord (m : Machine) (code : Code) (word leaf : List ℕ) (old new : GateList) (before after : List ℕ) : Type 0 where
  pub kept : KeepsGates old new
  pub nets : List ℕ
  pub count : length nets ≡ length word + code.columns
  pub cells : after ≡ before ++ nets
  pub right : (l : Layout) (front back : Words) → l.state ≡ front ++ word ∷ back
      → AreRight m code l leaf (net_count old) (latch_cells_from (latches_of_words code front) nets) new
  pub few : (cost : ℕ → ℕ) → GivesCosts m cost → net_count new ≤ net_count old + word_cost code (bit_costs cost (nets_at (stores_of m) word))

-- The places of the first words came to them.
pub record GainsWords (m : Machine) (code : Code) (words : Words) (leaf : List ℕ) (old new : GateList) (before after : List ℕ) : Type 0 where
  pub kept : KeepsGates old new
  pub nets : List ℕ
  pub count : length nets ≡ latches_of_words code words
  pub cells : after ≡ before ++ nets
  pub right : (l : Layout) (back : Words) → l.state ≡ words ++ back
      → AreRight m code l leaf (net_count old) (latch_cells_from 0 nets) new
  pub few : (cost : ℕ → ℕ) → GivesCosts m cost → net_count new ≤ net_count old + words_cost cost code (stores_of m) words

-- ---- outputs

-- Output x of the source, for which output o of the machine stands, is shown by net n, with a cell of its own where it is no
-- data input.
pub record GainsOutput (source m : Machine) (leaf : List ℕ) (x o n : ℕ) (old new : GateList) : Type 0 where
  pub kept : KeepsGates old new
  pub shows : (i : ℕ) → slice_get m.outputs i ≡ Some o → IsShown source.inputs old.leaves x n
  pub right : (code : Code) (l : Layout) (i : ℕ) → IsCode code → slice_get m.outputs i ≡ Some o
      → AreRight m code l leaf (net_count old) (gate_output_cells old.leaves i (n ∷ [])) new
  pub few : (cost : ℕ → ℕ) → GivesCosts m cost → net_count new ≤ net_count old + (2 + cost o)

-- So it is for the first outputs.
pub record GainsOutputs (source m : Machine) (leaf sources outputs shown : List ℕ) (old new : GateList) : Type 0 where
  pub kept : KeepsGates old new
  pub shows : (back : List ℕ) → m.outputs ≡ outputs ++ back → AllZip (IsShown source.inputs old.leaves) sources shown
  pub count : length shown ≡ length outputs
  pub right : (code : Code) (l : Layout) (back : List ℕ) → IsCode code → m.outputs ≡ outputs ++ back
      → AreRight m code l leaf (net_count old) (gate_output_cells old.leaves 0 shown) new
  pub few : (cost : ℕ → ℕ) → GivesCosts m cost → net_count new ≤ net_count old + sum (bit_costs cost outputs)

-- ---- check outputs

-- what the check bits of some output words cost
abbrev pub all_checks_cost : (ℕ → ℕ) → Code → List ℕ → Words → ℕ
all_checks_cost cost code all words = sum_by (λ w. checks_cost cost code (nets_at all w)) words

-- The check bits of one output word came to a list of gates, and their nets to the cells.
pub record GainsCheck (m : Machine) (code : Code) (word leaf : List ℕ) (old new : GateList) (before after : List ℕ) : Type 0 where
  pub kept : KeepsGates old new
  pub nets : List ℕ
  pub count : length nets ≡ code.columns
  pub cells : after ≡ before ++ nets
  pub right : (l : Layout) (front back : Words) → l.output ≡ front ++ word ∷ back
      → AreRight m code l leaf (net_count old) (output_cells (length m.outputs + length front * code.columns) nets) new
  pub few : (cost : ℕ → ℕ) → GivesCosts m cost → net_count new ≤ net_count old + checks_cost cost code (nets_at m.outputs word)

-- The check bits of the first words came to them.
pub record GainsChecks (m : Machine) (code : Code) (words : Words) (leaf : List ℕ) (old new : GateList) (before after : List ℕ) : Type 0 where
  pub kept : KeepsGates old new
  pub nets : List ℕ
  pub count : length nets ≡ length words * code.columns
  pub cells : after ≡ before ++ nets
  pub right : (l : Layout) (back : Words) → l.output ≡ words ++ back
      → AreRight m code l leaf (net_count old) (output_cells (length m.outputs) nets) new
  pub few : (cost : ℕ → ℕ) → GivesCosts m cost → net_count new ≤ net_count old + all_checks_cost cost code m.outputs words

-- ---- the three parts of a guard

-- The latches of a guard, whose cells came to a list of gates.
pub record HasLatches (m : Machine) (code : Code) (l : Layout) (leaf : List ℕ) (old new : GateList) (rows : List LatchRow) : Type 0 where
  pub kept : KeepsGates old new
  pub count : length rows ≡ latches_of_words code l.state
  pub inits : map (λ r. r.init) rows ≡ codewords code l.state (map (λ r. r.init) m.latches)
  pub right : AreRight m code l leaf (net_count old) (latch_cells (map (λ r. r.d) rows)) new
  pub few : (cost : ℕ → ℕ) → GivesCosts m cost → net_count new ≤ net_count old + words_cost cost code (stores_of m) l.state

-- The outputs of a guard without its rails: those of the source, copied out of the machine, and then check bits.
pub record HasOutputs (source m : Machine) (code : Code) (l : Layout) (leaf : List ℕ) (old new : GateList) (outputs : List ℕ) : Type 0 where
  pub kept : KeepsGates old new
  pub shown : List ℕ
  pub checks : List ℕ
  pub are : outputs ≡ shown ++ checks
  pub shows : AllZip (IsShown source.inputs old.leaves) source.outputs shown
  pub count : length checks ≡ length l.output * code.columns
  pub right : AreRight m code l leaf (net_count old) (gate_output_cells old.leaves 0 shown ++ output_cells (length shown) checks) new
  pub below : AllByRecursion (λ n. n < net_count new) outputs
  pub few : (cost : ℕ → ℕ) → GivesCosts m cost → net_count new ≤ net_count old + words_cost cost code m.outputs l.output

-- the words that rails watch, given the first latch, how many outputs the source has, and the outputs without rails
abbrev pub words_to_watch : Code → Layout → (inputs shown : ℕ) → List ℕ → List WordNets
words_to_watch code l inputs shown outputs =
    state_nets code inputs l.state ++ map (output_nets_of code shown outputs) (enumerate_from 0 l.output)

-- So many rails over some words, whose cells came to a list of gates, and their nets to the outputs.
pub record HasRails (code : Code) (words : List WordNets) (count : ℕ) (old new : GateList) (before after : List ℕ) : Type 0 where
  pub kept : KeepsGates old new
  pub rails : List ℕ
  pub many : length rails ≡ count
  pub are : after ≡ before ++ rails
  pub right : AreCells (λ net r. IsRailRange net (flat_map nets_of words) (SomeIsNone code words) r) (net_count old) (output_cells (length before) rails) new
  pub few : net_count new ≤ net_count old + count * rail_cells code words
