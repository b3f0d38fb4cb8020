-- Latches and outputs of a made guard have cells of their own, but those outputs that are data inputs.
use Rattle.std.proofs.Common.{◌≡◌, refl, sym, ◌∙◌, ap, subst, ℕ, zero, suc, ◌+◌, ◌<◌, ◌≤◌, ◌⊎◌, inl, inr, List, [], ◌∷◌, ◌++◌, length, map, slice_get, Some, arith, Contains, length-append}
use Rattle.std.specs.List.{AllByRecursion, AllZip}
use Rattle.std.proofs.lemmas.List.{length-map}
use Rattle.std.proofs.lemmas.List.Elements.{Contains-append_left, Contains-append_right}
use Rattle.netlist_spec.specs.CellBits.{latch_bit, output_bit}
use Rattle.netlist_spec.specs.GateRanges.{Region}
use Rattle.netlist_spec.specs.Gates.{IsGateList, IsMachine, LatchRow, Machine}
use Rattle.guard_spec.specs.Regions.{HaveOwnNets}
use Rattle.gate_net.specs.GateNet.{net_count}
use Rattle.cone_split.proofs.Cells.{all_contains, all_from_contains, at_contains}
use Rattle.cone_split.proofs.Ranges.{get_cases}
use Rattle.size_laws.proofs.Lists.{element_at}
use Rattle.guard_laws.proofs.Lists.{below_or, inside}
use Rattle.guard_cells.specs.Cells.{Cell}
use Rattle.guard_made.specs.Made.{IsShown, OutputNets, gate_output_cells, guarded, latch_cells, output_cells, rail_cells_of, word_cells}
use Rattle.guard_made.proofs.Cells.{range_of_cell}
use Rattle.guard_made.proofs.Numbered.{has_cell, has_gate_cell}
use Rattle.guard_made.proofs.Own.{all_cells, shown_there}

-- the partner of an element
with_right : {A B : Type 0} (R : A → B → Type 0) (xs : List A) (ys : List B) → AllZip R xs ys → (i : ℕ) (x : A) → slice_get xs i ≡ Some x → (y : B) × (slice_get ys i ≡ Some y) × R x y
with_right R [] ys all i x e = cc e
with_right R (a ∷ xs) [] all i x e = absurd all
with_right R (a ∷ xs) (b ∷ ys) all zero x e = let same : a ≡ x = cc e in (b, refl, subst (λ z. R z b) same all.0)
with_right R (a ∷ xs) (b ∷ ys) all (suc i) x e = with_right R xs ys all.1 i x e

with_left : {A B : Type 0} (R : A → B → Type 0) (xs : List A) (ys : List B) → AllZip R xs ys → (i : ℕ) (y : B) → slice_get ys i ≡ Some y → (x : A) × (slice_get xs i ≡ Some x) × R x y
with_left R xs [] all i y e = cc e
with_left R [] (b ∷ ys) all i y e = absurd all
with_left R (a ∷ xs) (b ∷ ys) all zero y e = let same : b ≡ y = cc e in (a, refl, subst (λ z. R a z) same all.0)
with_left R (a ∷ xs) (b ∷ ys) all (suc i) y e = with_left R xs ys all.1 i y e

module _ (g : Machine) (o : OutputNets) (outputs : g.outputs ≡ o.shown ++ o.checks ++ o.rails) where
  abbrev latches : List Cell
  latches = latch_cells (map (λ r. r.d) g.latches)

  abbrev shown : List Cell
  shown = gate_output_cells g.net.leaves 0 o.shown

  abbrev checks : List Cell
  checks = output_cells (length o.shown) o.checks

  latch_there : (i d : ℕ) → slice_get (map (λ r. r.d) g.latches) i ≡ Some d → Contains (all_cells g o outputs) (latch_bit (0 + i), d)
  latch_there i d e =
      Contains-append_left (word_cells g o) (rail_cells_of o) (latch_bit (0 + i), d)
      (Contains-append_left (latches ++ shown) checks (latch_bit (0 + i), d)
      (Contains-append_left latches shown (latch_bit (0 + i), d) (has_cell (λ i. latch_bit i) 0 (map (λ r. r.d) g.latches) i d e)))

  -- an output is the source's, a check bit or a rail
  abbrev InPart : ℕ → ℕ → Type 0
  InPart i n =
      (slice_get o.shown i ≡ Some n)
      ⊎ (((j : ℕ) × (i ≡ length o.shown + j) × (slice_get o.checks j ≡ Some n)) ⊎ ((j : ℕ) × (i ≡ length o.shown + length o.checks + j) × (slice_get o.rails j ≡ Some n)))

  output_part : (i n : ℕ) → slice_get g.outputs i ≡ Some n → InPart i n
  output_part i n e = by_rail (get_cases (o.shown ++ o.checks) o.rails i n (ap (λ (xs : List ℕ). slice_get xs i) (sym outputs) ∙ e))
    where
      by_check : (slice_get o.shown i ≡ Some n) ⊎ ((j : ℕ) × (i ≡ length o.shown + j) × (slice_get o.checks j ≡ Some n)) → InPart i n
      by_check (inl at) = inl at
      by_check (inr at) = inr (inl at)

      by_rail : (slice_get (o.shown ++ o.checks) i ≡ Some n) ⊎ ((j : ℕ) × (i ≡ length (o.shown ++ o.checks) + j) × (slice_get o.rails j ≡ Some n)) → InPart i n
      by_rail (inl at) = by_check (get_cases o.shown o.checks i n at)
      by_rail (inr (j, same, at)) = inr (inr (j, (let a = length-append o.shown o.checks in omega arith), at))

  abbrev HasOutput : ℕ → ℕ → Type 0
  HasOutput n i = Contains (all_cells g o outputs) (output_bit i, n)

  -- An output behind those of the source, or one that is a gate, has a cell.
  output_there : (i n : ℕ) → slice_get g.outputs i ≡ Some n → (length o.shown ≤ i) ⊎ (g.net.leaves ≤ n) → HasOutput n i
  output_there i n e kind = by_part (output_part i n e) kind
    where
      by_part : InPart i n → (length o.shown ≤ i) ⊎ (g.net.leaves ≤ n) → HasOutput n i
      by_part (inl at) (inl late) = absurd (let h = inside o.shown i n at in omega arith)
      by_part (inl at) (inr high) =
          subst (HasOutput n) (let z : 0 + i ≡ i = omega arith in z)
          (Contains-append_left (word_cells g o) (rail_cells_of o) (output_bit (0 + i), n)
          (Contains-append_left (latches ++ shown) checks (output_bit (0 + i), n)
          (Contains-append_right latches shown (output_bit (0 + i), n) (has_gate_cell g.net.leaves 0 o.shown i n at high))))
      by_part (inr (inl (j, same, at))) kind =
          subst (HasOutput n) (sym same)
          (Contains-append_left (word_cells g o) (rail_cells_of o) (output_bit (length o.shown + j), n)
          (Contains-append_right (latches ++ shown) checks (output_bit (length o.shown + j), n) (has_cell (λ i. output_bit i) (length o.shown) o.checks j n at)))
      by_part (inr (inr (j, same, at))) kind =
          subst (HasOutput n) (sym same)
          (Contains-append_right (word_cells g o) (rail_cells_of o) (output_bit (length o.shown + length o.checks + j), n) (has_cell (λ i. output_bit i) (length o.shown + length o.checks) o.rails j n at))

  module _ (gates : AllByRecursion (λ c. (g.net.leaves ≤ c.1) × (c.1 < net_count g.net)) (all_cells g o outputs)) where
    gate_of : (c : Cell) → Contains (all_cells g o outputs) c → (g.net.leaves ≤ c.1) × (c.1 < net_count g.net)
    gate_of c has = all_contains (λ (c : Cell). (g.net.leaves ≤ c.1) × (c.1 < net_count g.net)) (all_cells g o outputs) c gates has

    rows_below : (rows : List LatchRow) → AllByRecursion (λ n. n < net_count g.net) (map (λ r. r.d) rows) → AllByRecursion (λ r. r.d < net_count g.net) rows
    rows_below [] all = tt
    rows_below (r ∷ rows) all = (all.0, rows_below rows all.1)

    each_below : (nets : List ℕ) → ((i n : ℕ) → slice_get nets i ≡ Some n → n < net_count g.net) → AllByRecursion (λ n. n < net_count g.net) nets
    each_below nets f = all_from_contains (λ (n : ℕ). n < net_count g.net) nets (λ n c. let (i, e) = at_contains nets n c in f i n e)

    output_below : (i n : ℕ) → slice_get g.outputs i ≡ Some n → n < net_count g.net
    output_below i n e = by_kind (below_or n g.net.leaves)
      where
        by_kind : (n < g.net.leaves) ⊎ (g.net.leaves ≤ n) → n < net_count g.net
        by_kind (inl low) = omega arith
        by_kind (inr high) = (gate_of (output_bit i, n) (output_there i n e (inr high))).1

    pub is_machine : IsGateList g.net → g.net.leaves ≡ g.inputs + length g.latches → IsMachine g
    is_machine well leaves = record {
      gates = well;
      leaves = leaves;
      stores = rows_below g.latches (each_below (map (λ r. r.d) g.latches) (λ i n e. (gate_of (latch_bit (0 + i), n) (latch_there i n e)).1));
      outputs = each_below g.outputs output_below;
    }

    module _ (source : Machine) (inputs : g.inputs ≡ source.inputs) (all_shown : AllZip (IsShown source.inputs g.net.leaves) source.outputs o.shown) (few : source.inputs ≤ g.net.leaves) where
      latch_region : (i : ℕ) → i < length g.latches → (r : Region) × Contains (guarded g o).regions r × (r.bit ≡ latch_bit i)
      latch_region i h =
          let (d, e) = element_at (map (λ r. r.d) g.latches) i (let l = length-map g.latches (λ (r : LatchRow). r.d) in omega arith) in
          let (r, has, same) = range_of_cell g.net.leaves (all_cells g o outputs) (latch_bit (0 + i), d) (latch_there i d e) in
          (r, has, same ∙ ap (λ (k : ℕ). latch_bit k) (let z : 0 + i ≡ i = omega arith in z))

      passed : (i n : ℕ) → slice_get g.outputs i ≡ Some n → n < g.net.leaves → (n < source.inputs) × (slice_get source.outputs i ≡ Some n)
      passed i n e low = by_part (output_part i n e)
        where
          by_kind : (x : ℕ) → slice_get source.outputs i ≡ Some x → IsShown source.inputs g.net.leaves x n → (x < source.inputs) ⊎ (source.inputs ≤ x) → (n < source.inputs) × (slice_get source.outputs i ≡ Some n)
          by_kind x at is (inl h) = let same = is.passed h in (omega arith, at ∙ ap (λ (k : ℕ). Some k) (sym same))
          by_kind x at is (inr h) = absurd (let high = is.own h in omega arith)

          never : length o.shown ≤ i → ⊥
          never late = let high = (gate_of (output_bit i, n) (output_there i n e (inl late))).0 in omega arith

          by_part : InPart i n → (n < source.inputs) × (slice_get source.outputs i ≡ Some n)
          by_part (inl at) = let (x, there, is) = with_left (IsShown source.inputs g.net.leaves) source.outputs o.shown all_shown i n at in by_kind x there is (below_or x source.inputs)
          by_part (inr (inl (j, same, at))) = absurd (never (omega arith))
          by_part (inr (inr (j, same, at))) = absurd (never (omega arith))

      passed_all : (i n : ℕ) → slice_get source.outputs i ≡ Some n → n < source.inputs → slice_get g.outputs i ≡ Some n
      passed_all i n e h =
          let (k, there, is) = with_right (IsShown source.inputs g.net.leaves) source.outputs o.shown all_shown i n e in
          let same = is.passed h in
          ap (slice_get g.outputs) (let z : i ≡ 0 + i = omega arith in z) ∙ shown_there g o outputs i k there ∙ ap (λ (x : ℕ). Some x) same

      pub own_nets : HaveOwnNets (guarded g o) source
      own_nets = record {
        inputs = inputs;
        latches = latch_region;
        outputs = λ i n e high. range_of_cell g.net.leaves (all_cells g o outputs) (output_bit i, n) (output_there i n e (inr high));
        passes = passed;
        passes_all = passed_all;
      }
