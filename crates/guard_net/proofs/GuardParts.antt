-- The latches, the outputs and the rails of a guard, from what the steps leave.
use Rattle.std.proofs.Common.{◌≡◌, sym, ◌∙◌, ap, subst, ℕ, suc, ◌+◌, ◌*◌, ◌<◌, ◌≤◌, ◌⊎◌, inl, inr, Bool, cond, List, [], ◌∷◌, ◌++◌, length, map, drop, arith, append-nil, length-append}
use Rattle.std.specs.Prelude.{sum}
use Rattle.std.specs.List.{AllByRecursion, flat_map, range_with_len, zip}
use Rattle.std.proofs.lemmas.List.{drop_at, length-map, map-append, drop-map}
use Rattle.std.proofs.lemmas.List.FromFn.{length-map-range_with_len}
use Rattle.std.proofs.lemmas.Bool.{lt-ltb, le-ltb}
use Rattle.netlist_spec.proofs.OneValue.{All_append, All_back, All_front}
use Rattle.netlist_spec.specs.CellBits.{Bit, output_bit}
use Rattle.netlist_spec.specs.GateRanges.{Region}
use Rattle.netlist_spec.specs.Gates.{GateList, LatchRow, Machine}
use Rattle.guard_spec.specs.Codes.{Code, IsCode, data_places}
use Rattle.guard_spec.specs.Words.{IsPartition, Layout, Words, codewords}
use Rattle.gate_net.specs.declared.gate.NetId.{NetId}
use Rattle.gate_net.specs.Gate.{net_number}
use Rattle.gate_net.specs.GateNet.{net_count}
use Rattle.gate_net.specs.Words.{WordNets, nets_of}
use Rattle.cone_split.specs.Ranges.{KeepsGates}
use Rattle.alarm_rails.specs.Rail.{SomeIsNone, rail_cells}
use Rattle.guard_laws.specs.Places.{latches_of_words}
use Rattle.guard_laws.specs.Rows.{IsRailRange}
use Rattle.guard_cells.specs.Cells.{AreCells, Cell, bit_costs, end_from, ranges_from, words_cost}
use Rattle.guard_made.specs.Made.{gate_output_cells, latch_cells, output_cells}
use Rattle.guard_net.specs.Built.{AreRight, GainsChecks, GainsOutputs, GainsWords, HasLatches, HasOutputs, HasRails, all_checks_cost, stores_of}
use Rattle.guard_laws.proofs.Lists.{below_or}
use Rattle.guard_net.proofs.Lists.{keeps_count, keeps_trans}
use Rattle.guard_net.proofs.PartitionSums.{bits_and_checks}
use Rattle.guard_net.proofs.RightCells.{RowsJoin}

-- ---- latches

pub latches_made : (m : Machine) (code : Code) (l : Layout) (words : Words) (leaf : List ℕ) (old new : GateList) (before after : List ℕ) (rows : List LatchRow) → words ≡ l.state → before ≡ []
    → map (λ r. r.d) rows ≡ after → map (λ r. r.init) rows ≡ codewords code l.state (map (λ r. r.init) m.latches) → GainsWords m code words leaf old new before after → HasLatches m code l leaf old new rows
latches_made m code l words leaf old new before after rows is none stores starts gains =
    let nets : map (λ r. r.d) rows ≡ gains.nets = stores ∙ (gains.cells ∙ ap (λ (ns : List ℕ). ns ++ gains.nets) none) in
    record {
      kept = gains.kept;
      count = sym (length-map rows (λ (r : LatchRow). r.d)) ∙ (ap length nets ∙ (gains.count ∙ ap (latches_of_words code) is));
      inits = starts;
      right = subst (λ (ns : List ℕ). AreRight m code l leaf (net_count old) (latch_cells ns) new) (sym nets) (gains.right l [] (sym is ∙ sym (append-nil words)));
      few = λ cost gives. subst (λ (ws : Words). net_count new ≤ net_count old + words_cost cost code (stores_of m) ws) is (gains.few cost gives);
    }

-- ---- outputs

abbrev Ends : List Region → Type 0
Ends rs = AllByRecursion (λ r. r.first < r.end) rs

goes_up : (first : ℕ) (cs : List Cell) → Ends (ranges_from first cs) → first ≤ end_from first cs
goes_up first [] h = omega arith
goes_up first (c ∷ cs) h = let rest = goes_up (suc c.1) cs h.1 in let here = h.0 in omega arith

cells_below : (first m : ℕ) (cs : List Cell) → Ends (ranges_from first cs) → end_from first cs ≤ m → AllByRecursion (λ c. c.1 < m) cs
cells_below first m [] h e = tt
cells_below first m (c ∷ cs) h e = (let rest = goes_up (suc c.1) cs h.1 in omega arith, cells_below (suc c.1) m cs h.1 e)

row_ends : (IsOne : GateList → Region → Type 0) (net : GateList) (rs : List Region) → AllByRecursion (λ r. (r.first < r.end) × IsOne net r) rs → Ends rs
row_ends IsOne net [] h = tt
row_ends IsOne net (r ∷ rs) h = (h.0.0, row_ends IsOne net rs h.1)

row_below : (IsOne : GateList → Region → Type 0) (first : ℕ) (cs : List Cell) (net : GateList) → AreCells IsOne first cs net → AllByRecursion (λ c. c.1 < net_count net) cs
row_below IsOne first cs net row = cells_below first (net_count net) cs (row_ends IsOne net (ranges_from first cs) row.ranges) (let e = row.end in omega arith)

abbrev with_gate : Bool → Cell → List Cell → List Cell
with_gate b c cs = cond b cs (c ∷ cs)

shown_below : (leaves a m : ℕ) (shown : List ℕ) → leaves ≤ m → AllByRecursion (λ c. c.1 < m) (gate_output_cells leaves a shown) → AllByRecursion (λ n. n < m) shown
shown_below leaves a m [] h cells = tt
shown_below leaves a m (n ∷ shown) h cells = by_place (below_or n leaves) (shown_below leaves (a + 1) m shown h)
  where
    by_place : (n < leaves) ⊎ (leaves ≤ n) → (AllByRecursion (λ c. c.1 < m) (gate_output_cells leaves (a + 1) shown) → AllByRecursion (λ k. k < m) shown) → AllByRecursion (λ k. k < m) (n ∷ shown)
    by_place (inl k) later =
        let passed : AllByRecursion (λ c. c.1 < m) (gate_output_cells leaves (a + 1) shown)
        = subst (λ (b : Bool). AllByRecursion (λ c. c.1 < m) (with_gate b (output_bit a, n) (gate_output_cells leaves (a + 1) shown))) (lt-ltb n leaves k) cells in
        (omega arith, later passed)
    by_place (inr k) later =
        let own : AllByRecursion (λ c. c.1 < m) ((output_bit a, n) ∷ gate_output_cells leaves (a + 1) shown)
        = subst (λ (b : Bool). AllByRecursion (λ c. c.1 < m) (with_gate b (output_bit a, n) (gate_output_cells leaves (a + 1) shown))) (le-ltb n leaves k) cells in
        (own.0, later own.1)

checks_below : (f : ℕ → Bit) (a m : ℕ) (nets : List ℕ) → AllByRecursion (λ c. c.1 < m) (zip (map f (range_with_len a (length nets))) nets) → AllByRecursion (λ n. n < m) nets
checks_below f a m [] h = tt
checks_below f a m (n ∷ nets) h = (h.0, checks_below f (a + 1) m nets h.1)

-- the cells behind those that were there
pub behind : (old : List NetId) (outputs cells : List NetId) (first : ℕ) (before nets : List ℕ) → outputs ≡ old ++ drop first cells → first ≡ length before → map net_number cells ≡ before ++ nets → map net_number outputs ≡ map net_number old ++ nets
behind old outputs cells first before nets is at are =
    ap (map net_number) is ∙ (map-append net_number old (drop first cells)
    ∙ ap (λ (ns : List ℕ). map net_number old ++ ns) (sym (drop-map net_number first cells) ∙ (ap (drop first) are ∙ drop_at before nets first (sym at))))

pub outputs_made : RowsJoin → (source m : Machine) (code : Code) (l : Layout) (words : Words) (leaf : List ℕ) (old mid new : GateList) (shown outputs before after : List ℕ) → IsCode code → words ≡ l.output
    → IsPartition (length m.outputs) (data_places code) l.output → old.leaves ≤ net_count old → (gains : GainsChecks m code words leaf mid new before after) → GainsOutputs source m leaf source.outputs m.outputs shown old mid → outputs ≡ shown ++ gains.nets
    → HasOutputs source m code l leaf old new outputs
outputs_made join source m code l words leaf old mid new shown outputs before after is_code is partition leaves gains gained are =
    let all : AreRight m code l leaf (net_count old) (gate_output_cells old.leaves 0 shown ++ output_cells (length shown) gains.nets) new
    = join leaf m code l (net_count old) (gate_output_cells old.leaves 0 shown) (output_cells (length shown) gains.nets) mid new
    (gained.right code l [] is_code (sym (append-nil m.outputs))) gains.kept
    (subst (λ (k : ℕ). AreRight m code l leaf (net_count mid) (output_cells k gains.nets) new) (sym gained.count) (gains.right l [] (sym is ∙ sym (append-nil words)))) in
    let kept = keeps_trans old mid new gained.kept gains.kept in
    record {
      kept = kept;
      shown = shown;
      checks = gains.nets;
      are = are;
      shows = gained.shows [] (sym (append-nil m.outputs));
      count = gains.count ∙ ap (λ (ws : Words). length ws * code.columns) is;
      right = all;
      below = (
          let cells = row_below _ (net_count old) (gate_output_cells old.leaves 0 shown ++ output_cells (length shown) gains.nets) new all in
          let some : old.leaves ≤ net_count new = let k = keeps_count old new kept in omega (arith, k, leaves) in
          subst (λ (ns : List ℕ). AllByRecursion (λ n. n < net_count new) ns) (sym are)
          (All_append (λ n. n < net_count new) shown gains.nets
          (shown_below old.leaves 0 (net_count new) shown some (All_front (λ c. c.1 < net_count new) (gate_output_cells old.leaves 0 shown) (output_cells (length shown) gains.nets) cells))
          (checks_below (λ i. output_bit i) (length shown) (net_count new) gains.nets (All_back (λ c. c.1 < net_count new) (gate_output_cells old.leaves 0 shown) (output_cells (length shown) gains.nets) cells)))
          );
      few = λ cost gives.
          let a = gained.few cost gives in
          let b = gains.few cost gives in
          let c = bits_and_checks cost m.outputs code (data_places code) l.output partition in
          let d = ap (all_checks_cost cost code m.outputs) is in
          omega (arith, a, b, c, d);
    }

-- the room for outputs, and then for their check bits
pub outputs_have_room : (cost : ℕ → ℕ) (outputs : List ℕ) (code : Code) (k : ℕ) (words : Words) (first most : ℕ) → IsPartition (length outputs) k words → first + words_cost cost code outputs words ≤ most → first + sum (bit_costs cost outputs) ≤ most
outputs_have_room cost outputs code k words first most is all = let c = bits_and_checks cost outputs code k words is in omega (arith, c, all)

pub checks_have_room : (cost : ℕ → ℕ) (outputs : List ℕ) (code : Code) (k : ℕ) (words own : Words) (first mid most : ℕ) → own ≡ words → IsPartition (length outputs) k words → mid ≤ first + sum (bit_costs cost outputs) → first + words_cost cost code outputs words ≤ most
    → mid + all_checks_cost cost code outputs own ≤ most
checks_have_room cost outputs code k words own first mid most same is few all =
    let c = bits_and_checks cost outputs code k words is in
    let d = ap (all_checks_cost cost code outputs) same in
    omega (arith, c, d, few, all)

-- ---- rails

abbrev pub RailsAreRight : Code → List WordNets → GateList → GateList → ℕ → List ℕ → Type 0
RailsAreRight code words old new count nets =
    (bits : List Bit) → length bits ≡ count → AreCells (λ net r. IsRailRange net (flat_map nets_of words) (SomeIsNone code words) r) (net_count old) (zip bits nets) new

pub rails_made : (code : Code) (words own : List WordNets) (count : ℕ) (old new : GateList) (before after nets : List ℕ) → own ≡ words → KeepsGates old new → length nets ≡ count → after ≡ before ++ nets
    → RailsAreRight code own old new count nets → net_count new ≤ net_count old + count * rail_cells code own → HasRails code words count old new before after
rails_made code words own count old new before after nets same keep many are right few =
    subst (λ (ws : List WordNets). HasRails code ws count old new before after) same (record {
      kept = keep;
      rails = nets;
      many = many;
      are = are;
      right = right (map (λ i. output_bit i) (range_with_len (length before) (length nets))) (length-map-range_with_len (λ i. output_bit i) (length before) (length nets) ∙ many);
      few = few;
    })

pub longer : (old new : List NetId) (nets : List ℕ) (n : ℕ) → n ≡ length old → map net_number new ≡ map net_number old ++ nets → n ≤ length new
longer old new nets n count are =
    let a : length new ≡ length old + length nets = sym (length-map new net_number) ∙ (ap length are ∙ (length-append (map net_number old) nets ∙ ap (λ (k : ℕ). k + length nets) (length-map old net_number))) in
    omega (arith, a, count)
