-- The cells of a made guard are those of its bits, in order, and the last outputs are the rails.
use Rattle.std.proofs.Common.{◌≡◌, sym, ◌∙◌, ap, subst, ℕ, ◌+◌, ◌≤◌, List, ◌++◌, length, map, slice_get, Some, arith, length-append}
use Rattle.std.specs.List.{AllByRecursion}
use Rattle.netlist_spec.specs.CellBits.{Bit, latch_bit, output_bit}
use Rattle.netlist_spec.specs.Gates.{Machine}
use Rattle.netlist_spec.proofs.OneValue.{All_append}
use Rattle.guard_spec.specs.Regions.{IsBitNet, IsRailBit}
use Rattle.cone_split.proofs.Ranges.{get_left, get_right}
use Rattle.guard_cells.specs.Cells.{Cell}
use Rattle.guard_made.specs.Made.{OutputNets, gate_output_cells, guarded, latch_cells, output_cells, rail_cells_of, word_cells}
use Rattle.guard_made.proofs.Cells.{weaker}
use Rattle.guard_made.proofs.Order.{InOrder, IsBelow, IsFrom, all_before, latches_rise, order_join, outputs_rise}
use Rattle.guard_made.proofs.Numbered.{IsAt, each_at, each_gate_at, gates_in_order, in_order, latch_below, output_below, output_from}

module _ (g : Machine) (o : OutputNets) (outputs : g.outputs ≡ o.shown ++ o.checks ++ o.rails) where
  abbrev pub all_cells : List Cell
  all_cells = word_cells g o ++ rail_cells_of o

  abbrev stores : List ℕ
  stores = map (λ r. r.d) g.latches

  abbrev latches : List Cell
  latches = latch_cells stores

  abbrev shown : List Cell
  shown = gate_output_cells g.net.leaves 0 o.shown

  abbrev checks : List Cell
  checks = output_cells (length o.shown) o.checks

  abbrev rails : List Cell
  rails = rail_cells_of o

  -- the number of the first rail
  abbrev pub words : ℕ
  words = length o.shown + length o.checks

  pub outputs_long : length g.outputs ≡ words + length o.rails
  outputs_long =
      let a = length-append (o.shown ++ o.checks) o.rails in
      let b = length-append o.shown o.checks in
      let c = ap (λ (xs : List ℕ). length xs) outputs in
      omega arith

  -- ---- each has the net of its bit

  abbrev IsOwn : Cell → Type 0
  IsOwn c = IsBitNet (guarded g o) c.0 c.1

  latch_own : (c : Cell) → IsAt (λ i. latch_bit i) 0 stores c → IsOwn c
  latch_own c is = subst (λ (b : Bit). IsBitNet (guarded g o) b c.1) (sym is.is_bit) (ap (slice_get stores) (let e : 0 + is.place ≡ is.place = omega arith in e) ∙ is.is_net)

  output_own : (first : ℕ) (nets : List ℕ) → ((p n : ℕ) → slice_get nets p ≡ Some n → slice_get g.outputs (first + p) ≡ Some n) → (c : Cell) → IsAt (λ i. output_bit i) first nets c → IsOwn c
  output_own first nets there c is = subst (λ (b : Bit). IsBitNet (guarded g o) b c.1) (sym is.is_bit) (there is.place c.1 is.is_net)

  pub shown_there : (p n : ℕ) → slice_get o.shown p ≡ Some n → slice_get g.outputs (0 + p) ≡ Some n
  shown_there p n e = ap (λ (xs : List ℕ). slice_get xs (0 + p)) outputs ∙ ap (slice_get (o.shown ++ o.checks ++ o.rails)) (let z : 0 + p ≡ p = omega arith in z) ∙ get_left (o.shown ++ o.checks) o.rails p n (get_left o.shown o.checks p n e)

  checks_there : (p n : ℕ) → slice_get o.checks p ≡ Some n → slice_get g.outputs (length o.shown + p) ≡ Some n
  checks_there p n e = ap (λ (xs : List ℕ). slice_get xs (length o.shown + p)) outputs ∙ get_left (o.shown ++ o.checks) o.rails (length o.shown + p) n (get_right o.shown o.checks p ∙ e)

  rails_there : (p n : ℕ) → slice_get o.rails p ≡ Some n → slice_get g.outputs (words + p) ≡ Some n
  rails_there p n e =
      ap (λ (xs : List ℕ). slice_get xs (words + p)) outputs
      ∙ ap (slice_get (o.shown ++ o.checks ++ o.rails)) (let a = length-append o.shown o.checks in let z : words + p ≡ length (o.shown ++ o.checks) + p = omega arith in z)
      ∙ get_right (o.shown ++ o.checks) o.rails p
      ∙ e

  -- what holds of the cells of each kind holds of all of them
  of_words : (P : Cell → Type 0) → AllByRecursion P latches → AllByRecursion P shown → AllByRecursion P checks → AllByRecursion P (word_cells g o)
  of_words P a b c = All_append P (latches ++ shown) checks (All_append P latches shown a b) c

  pub all_own : AllByRecursion IsOwn all_cells
  all_own =
      All_append IsOwn (word_cells g o) rails
      (of_words IsOwn
      (weaker (IsAt (λ i. latch_bit i) 0 stores) IsOwn latch_own latches (each_at (λ i. latch_bit i) 0 stores))
      (weaker (IsAt (λ i. output_bit i) 0 o.shown) IsOwn (output_own 0 o.shown shown_there) shown (each_gate_at g.net.leaves 0 o.shown))
      (weaker (IsAt (λ i. output_bit i) (length o.shown) o.checks) IsOwn (output_own (length o.shown) o.checks checks_there) checks (each_at (λ i. output_bit i) (length o.shown) o.checks)))
      (weaker (IsAt (λ i. output_bit i) words o.rails) IsOwn (output_own words o.rails rails_there) rails (each_at (λ i. output_bit i) words o.rails))

  -- ---- rails are the last

  latches_below : (n : ℕ) → AllByRecursion (λ c. IsBelow n c.0) latches
  latches_below n = weaker (IsAt (λ i. latch_bit i) 0 stores) (λ (c : Cell). IsBelow n c.0) (latch_below n 0 stores) latches (each_at (λ i. latch_bit i) 0 stores)

  shown_below : (n : ℕ) → length o.shown ≤ n → AllByRecursion (λ c. IsBelow n c.0) shown
  shown_below n h = weaker (IsAt (λ i. output_bit i) 0 o.shown) (λ (c : Cell). IsBelow n c.0) (λ c is. output_below n 0 o.shown c (omega arith) is) shown (each_gate_at g.net.leaves 0 o.shown)

  shown_from : AllByRecursion (λ c. IsFrom 0 c.0) shown
  shown_from = weaker (IsAt (λ i. output_bit i) 0 o.shown) (λ (c : Cell). IsFrom 0 c.0) (λ c is. output_from 0 0 o.shown c (omega arith) is) shown (each_gate_at g.net.leaves 0 o.shown)

  checks_from : (n : ℕ) → n ≤ length o.shown → AllByRecursion (λ c. IsFrom n c.0) checks
  checks_from n h = weaker (IsAt (λ i. output_bit i) (length o.shown) o.checks) (λ (c : Cell). IsFrom n c.0) (λ c is. output_from n (length o.shown) o.checks c h is) checks (each_at (λ i. output_bit i) (length o.shown) o.checks)

  pub words_below : AllByRecursion (λ c. IsBelow words c.0) (word_cells g o)
  words_below =
      of_words (λ (c : Cell). IsBelow words c.0) (latches_below words) (shown_below words (omega arith))
      (weaker (IsAt (λ i. output_bit i) (length o.shown) o.checks) (λ (c : Cell). IsBelow words c.0) (λ c is. output_below words (length o.shown) o.checks c (omega arith) is) checks (each_at (λ i. output_bit i) (length o.shown) o.checks))

  pub rails_from : AllByRecursion (λ c. IsFrom words c.0) rails
  rails_from = weaker (IsAt (λ i. output_bit i) words o.rails) (λ (c : Cell). IsFrom words c.0) (λ c is. output_from words words o.rails c (omega arith) is) rails (each_at (λ i. output_bit i) words o.rails)

  pub no_rail : (b : Bit) → IsBelow words b → IsRailBit (guarded g o) b → ⊥
  no_rail (latch_bit i) low rail = rail
  no_rail (output_bit i) low rail = let e = outputs_long in omega arith

  pub is_rail : (b : Bit) → IsFrom words b → IsRailBit (guarded g o) b
  is_rail (latch_bit i) high = high
  is_rail (output_bit i) high = let e = outputs_long in omega arith

  -- ---- in order

  pub all_in_order : InOrder all_cells
  all_in_order =
      order_join (word_cells g o) rails
      (order_join (latches ++ shown) checks
      (order_join latches shown (in_order (λ i. latch_bit i) latches_rise 0 stores) (gates_in_order g.net.leaves 0 o.shown) (all_before 0 latches shown (latches_below 0) shown_from))
      (in_order (λ i. output_bit i) outputs_rise (length o.shown) o.checks)
      (all_before (length o.shown) (latches ++ shown) checks
      (All_append (λ (c : Cell). IsBelow (length o.shown) c.0) latches shown (latches_below (length o.shown)) (shown_below (length o.shown) (omega arith)))
      (checks_from (length o.shown) (omega arith))))
      (in_order (λ i. output_bit i) outputs_rise words o.rails)
      (all_before words (word_cells g o) rails words_below rails_from)
