-- The words of a layout as its vectors have them, and what the cells with names of their own are made of.
use Rattle.std.proofs.Common.{◌≡◌, sym, ◌∙◌, ap, ap₂, subst, ℕ, ◌+◌, ◌<◌, ◌≤◌, ◌^◌, List, [], ◌∷◌, ◌++◌, length, map, All, Vec, Global, arith, length-append}
use Rattle.std.specs.List.{AllByRecursion, range_with_len}
use Rattle.std.proofs.lemmas.List.{length-map}
use Rattle.std.proofs.lemmas.List.Elements.{All-from_recursion}
use Rattle.std.proofs.lemmas.List.FromFn.{length-map-range_with_len}
use Rattle.netlist_spec.specs.Gates.{LatchRow}
use Rattle.guard_spec.specs.Words.{Words, Layout}
use Rattle.encode_state.specs.Types.{numbers_in, words_in}
use Rattle.gate_net.specs.declared.gate.NetId.{NetId}
use Rattle.gate_net.specs.declared.machine.LatchRow.{LatchRow as Latch}
use Rattle.gate_net.specs.Gate.{net_number}
use Rattle.gate_net.specs.Machine.{latch_row}
use Rattle.imp_text.specs.declared.names.NameId.{NameId}
use Rattle.named_netlist.specs.declared.label.Label.{Label}
use Rattle.named_netlist.specs.declared.label.Label.TheVariants.{Given, Inner, Rail}
use Rattle.guard_names.specs.declared.labels.Kind.TheVariants.{Store as ForStore, Next as ForNext}
use Rattle.guard_names.specs.declared.named.GuardNets.{GuardNets}
use Rattle.guard_names.specs.Labels.{beside_gates, between, state_labels, check_labels, shown_labels}
use Rattle.guard_names.specs.OfGuard.{CanLabel, output_numbers, own_nets, own_labels, guard_labels_of}
use Rattle.guard_names.proofs.Lists.{as_many}
use Rattle.guard_names.proofs.Pushed.{stored_numbers}

pub as_many_words : (words : List (Vec ℕ Global)) (state : Words) → state ≡ words_in words → length words ≡ length state
as_many_words words state is = sym (length-map words numbers_in) ∙ ap (λ (ws : Words). length ws) (sym is)

pub few_words_in : (words : List (Vec ℕ Global)) (state : Words) → state ≡ words_in words → length state < 2 ^ 32 → length words < 2 ^ 32
few_words_in words state is few = let a = as_many_words words state is in omega arith

pub short_words_in : (words : List (Vec ℕ Global)) (state : Words) → state ≡ words_in words → AllByRecursion (λ w. length w ≤ 12) state → All (λ (w : Vec ℕ Global). length w.items ≤ 12) words
short_words_in words state is short =
    All-from_recursion (λ (w : Vec ℕ Global). length w.items ≤ 12) words (each words (subst (λ (ws : Words). AllByRecursion (λ w. length w ≤ 12) ws) is short))
  where
    each : (vs : List (Vec ℕ Global)) → AllByRecursion (λ w. length w ≤ 12) (words_in vs) → AllByRecursion (λ (w : Vec ℕ Global). length w.items ≤ 12) vs
    each [] h = tt
    each (v ∷ vs) h = (h.0, each vs h.1)

-- the nets of own cells, from those that latches store
pub own_nets_are : (g : GuardNets) (stored all outs : List NetId) (latches : List Latch) (leaves : ℕ) → stored ≡ map (λ (l : Latch). l.d) latches → latches ≡ g.latches.items → outs ≡ g.outputs.items → leaves ≡ g.net.leaves
    → map net_number all ≡ map net_number stored ++ beside_gates leaves (map net_number outs) (map net_number outs) → map net_number all ≡ own_nets g
own_nets_are g stored all outs latches leaves is of_g outs_are leaf pushed =
    pushed
    ∙ ap₂ (λ (xs ys : List ℕ). xs ++ ys)
    (ap (map net_number) (is ∙ ap (map (λ (l : Latch). l.d)) of_g) ∙ stored_numbers g.latches.items)
    (ap (λ (k : ℕ). beside_gates k (map net_number outs) (map net_number outs)) leaf ∙ ap (λ (ns : List NetId). beside_gates g.net.leaves (map net_number ns) (map net_number ns)) outs_are)

-- the labels of own cells
pub own_labels_are : (g : GuardNets) (output_names : List NameId) (l : Layout) (columns words leaves : ℕ) (before all shown : List Label) (outs : List NetId) (state : Words)
    → before ≡ state_labels ForNext columns state → state ≡ l.state → shown ≡ shown_labels output_names columns words g.rails → words ≡ length l.output → outs ≡ g.outputs.items → leaves ≡ g.net.leaves
    → all ≡ before ++ beside_gates leaves shown (map net_number outs) → all ≡ own_labels g output_names l columns
own_labels_are g output_names l columns words leaves before all shown outs state first state_is shown_are count outs_are leaf pushed =
    pushed
    ∙ ap₂ (λ (xs ys : List Label). xs ++ ys) (first ∙ ap (state_labels ForNext columns) state_is)
    (ap (λ (ls : List Label). beside_gates leaves ls (map net_number outs)) (shown_are ∙ ap (λ (k : ℕ). shown_labels output_names columns k g.rails) count)
    ∙ ap (λ (k : ℕ). beside_gates k (shown_labels output_names columns (length l.output) g.rails) (map net_number outs)) leaf
    ∙ ap (λ (ns : List NetId). beside_gates g.net.leaves (shown_labels output_names columns (length l.output) g.rails) (map net_number ns)) outs_are)

shown_count : (ids : List NameId) (columns words rails : ℕ) → length (shown_labels ids columns words rails) ≡ length ids + length (check_labels columns words) + rails
shown_count ids columns words rails =
    let a = length-append (map (λ n. Given n) ids ++ check_labels columns words) (map (λ i. Rail i) (range_with_len 0 rails)) in
    let b = length-append (map (λ n. Given n) ids) (check_labels columns words) in
    let c = length-map ids (λ n. Given n) in
    let d = length-map-range_with_len (λ i. Rail i) 0 rails in
    omega arith

-- there is a label for each output
pub shown_fits : (ids : List NameId) (columns words rails : ℕ) (output : Words) (outs : List NetId) (shown : List Label) → shown ≡ shown_labels ids columns words rails → words ≡ length output
    → length outs ≡ length ids + length (check_labels columns (length output)) + rails → length shown ≡ length outs
shown_fits ids columns words rails output outs shown is count long =
    let a = ap (λ (ls : List Label). length ls) (is ∙ ap (λ (k : ℕ). shown_labels ids columns k rails) count) in
    let b = shown_count ids columns (length output) rails in
    omega arith

module _ (g : GuardNets) (inputs columns : ℕ) (ids : List NameId) (l : Layout) (can : CanLabel g inputs (length ids) l columns) where
  -- there is a label for each cell of its own
  pub own_fits : (nets : List NetId) (labels : List Label) → map net_number nets ≡ own_nets g → labels ≡ own_labels g ids l columns → length labels ≡ length nets
  own_fits nets labels nets_are labels_are =
      let a = length-map nets net_number in
      let b = ap (λ (ns : List ℕ). length ns) nets_are in
      let c = ap (λ (ls : List Label). length ls) labels_are in
      let d = length-append (map (λ (r : LatchRow). r.d) (map latch_row g.latches.items)) (beside_gates g.net.leaves (output_numbers g) (output_numbers g)) in
      let e = length-append (state_labels ForNext columns l.state) (beside_gates g.net.leaves (shown_labels ids columns (length l.output) g.rails) (output_numbers g)) in
      let f = length-map (map latch_row g.latches.items) (λ (r : LatchRow). r.d) in
      let h = length-map g.latches.items latch_row in
      let i = length-map g.outputs.items net_number in
      let j = shown_count ids columns (length l.output) g.rails in
      let latches = can.latches in
      let outputs = can.outputs in
      let many : length (output_numbers g) ≡ length (shown_labels ids columns (length l.output) g.rails) = omega arith in
      let k = as_many g.net.leaves (output_numbers g) (shown_labels ids columns (length l.output) g.rails) (output_numbers g) many in
      omega arith

  -- all labels, part by part
  pub all_labels_are : (data_ids : List NameId) → inputs ≡ length data_ids → (empty given state all own : List Label) (words : Words) (nets : List NetId) → empty ≡ [] → given ≡ empty ++ map (λ n. Given n) data_ids
      → state ≡ given ++ state_labels ForStore columns words → words ≡ l.state → map net_number nets ≡ own_nets g → own ≡ own_labels g ids l columns
      → all ≡ state ++ between (λ k. Inner k) (length state) 0 (map net_number nets) own → all ≡ guard_labels_of g data_ids ids l columns
  all_labels_are data_ids inputs_are empty given state all own words nets none first stores words_are nets_are own_are pushed =
      let is_front : state ≡ map (λ n. Given n) data_ids ++ state_labels ForStore columns l.state
      = stores ∙ ap₂ (λ (xs ys : List Label). xs ++ ys) (first ∙ ap (λ (xs : List Label). xs ++ map (λ n. Given n) data_ids) none) (ap (state_labels ForStore columns) words_are) in
      let long : length state ≡ g.net.leaves = (let a = ap (λ (ls : List Label). length ls) is_front in let b = length-append (map (λ n. Given n) data_ids) (state_labels ForStore columns l.state) in let c = length-map data_ids (λ n. Given n) in let d = can.leaves in omega arith) in
      pushed
      ∙ ap₂ (λ (xs ys : List Label). xs ++ ys) is_front
      (ap (λ (k : ℕ). between (λ j. Inner j) k 0 (map net_number nets) own) long
      ∙ ap (λ (ns : List ℕ). between (λ j. Inner j) g.net.leaves 0 ns own) nets_are
      ∙ ap (λ (ls : List Label). between (λ j. Inner j) g.net.leaves 0 (own_nets g) ls) own_are)
