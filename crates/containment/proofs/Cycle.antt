-- What a cycle of a guard shows and stores under few faults.
use Rattle.std.proofs.Common.{◌≡◌, ◌≢◌, refl, sym, ◌∙◌, ap, ap₂, subst, ℕ, zero, suc, ◌+◌, ◌-◌, ◌*◌, ◌<◌, ◌≤◌, List, [], ◌∷◌, ◌++◌, length, map, take, drop, get_or, slice_range, slice_get, Bool, true, false, cond, ◌||◌, ◌==◌, ◌⊎◌, inl, inr, ◌↔◌, Option, Some, None, arith, Contains, IsTrue, length-append, length-drop, length-take, take-append-drop, drop-drop, get_or-drop, get_or-append-add, eqb-true, ne_eqb, add_assoc, zero-add, find, option_map, unwrap_or, ext_get_or, mul-le-mul_right}
use Rattle.std.proofs.lemmas.Option.{slice_get-get_or, same_Some}
use Rattle.std.proofs.lemmas.List.{length-map, get_or-map, get_or_append_left, map-append}
use Rattle.std.proofs.lemmas.List.Elements.{All-from_recursion, recursion_from_All}
use Rattle.std.proofs.lemmas.List.Concat.{get_or-flat_map}
use Rattle.std.proofs.lemmas.List.FromFn.{length-range_with_len, get_or-range_with_len, length-map-range_with_len, get_or-map-range_with_len, length-enumerate_from, get_or-enumerate_from}
use Rattle.std.specs.List.{AllByRecursion, list_any, range_with_len, enumerate_from, flat_map}
use Rattle.netlist_spec.specs.SourceRun.{Bits}
use Rattle.netlist_spec.specs.Gates.{Machine, IsMachine, ForcedNets, shown_net, latch_nets, GateValues, GateStep}
use Rattle.guard_spec.specs.Codes.{Code, IsCode, checks_of, encoded, apart, Mode}
use Rattle.guard_spec.specs.Words.{Words, Layout, IsPartition, bits_at, all_numbers, codewords, output_word}
use Rattle.netlist_spec.specs.CellBits.{latch_bit, output_bit}
use Rattle.guard_spec.specs.Count.{right_outputs, StateWordsAre, IsNear}
use Rattle.netlist_spec.proofs.OneValue.{All_append}
use Rattle.containment.specs.Cycles.{AreAmong, IsWrongInFew}
use Rattle.containment.specs.Built.{IsCoded, IsBuilt}
use Rattle.block_code.proofs.Coding.{length_checks}
use Rattle.containment.proofs.Counting.{number, number_counts, AreDistinct, number_below, ranges_are_distinct, distinct_behind, parts_are_distinct, parts_are_below, range_as_map, apart_by_cells, lists_apart, not_any_at, All_below}
use Rattle.containment.proofs.Owners.{owned, owned_from_cell, untouched, one_latch, one_output}
use Rattle.containment.proofs.OneCycle.{zip_at, zip_length, shows_own, same_lengths, words_near}
use Rattle.guard_spec.specs.Regions.{Guarded, CoversGates}

-- Stored bits are right but for the latches to which some cells belong.
abbrev pub IsRightBut : Guarded → List ℕ → Bits → Bits → Type 0
IsRightBut g cells stored right = (k : ℕ) → k < length g.machine.latches → list_any (owned g (latch_bit k)) cells ≡ false → get_or stored k false ≡ get_or right k false

latches_long : (g : Guarded) → length (latch_nets g.machine) ≡ length g.machine.latches
latches_long g = length-range_with_len g.machine.inputs (length g.machine.latches)

module _ (g : Guarded) (stored x : Bits) (faults : ForcedNets) (v : ℕ → Bool) (values : GateValues g.machine stored x faults v) where
  pub shown_long : length (map v (latch_nets g.machine)) ≡ length g.machine.latches
  shown_long = length-map (latch_nets g.machine) v ∙ latches_long g

  pub stored_long : length stored ≡ length g.machine.latches
  stored_long = sym (zip_length (λ q bit. v q ≡ shown_net faults q bit) (latch_nets g.machine) stored values.latches) ∙ latches_long g

  -- A latch that is not faulty shows its stored bit.
  pub shows_stored : (k : ℕ) → k < length g.machine.latches → AllByRecursion (λ (e : ℕ × Bool). e.0 ≢ g.machine.inputs + k) faults → get_or (map v (latch_nets g.machine)) k false ≡ get_or stored k false
  shows_stored k h others =
      let q = get_or (latch_nets g.machine) k 0 in
      let inside : k < length (latch_nets g.machine) = subst (λ (n : ℕ). k < n) (sym (latches_long g)) h in
      get_or-map v (latch_nets g.machine) k 0 false inside
      ∙ (zip_at (λ q bit. v q ≡ shown_net faults q bit) (latch_nets g.machine) stored k 0 false values.latches inside
      ∙ shows_own faults q (get_or stored k false) (apart_from faults others))
    where
      apart_from : (fs : ForcedNets) → AllByRecursion (λ (e : ℕ × Bool). e.0 ≢ g.machine.inputs + k) fs → AllByRecursion (λ (e : ℕ × Bool). (e.0 == get_or (latch_nets g.machine) k 0) ≡ false) fs
      apart_from [] a = tt
      apart_from (e ∷ fs) a = (ne_eqb e.0 _ (λ same. a.0 (same ∙ get_or-range_with_len g.machine.inputs (length g.machine.latches) k 0 h)), apart_from fs a.1)

module _ (g : Guarded) (is_machine : IsMachine g.machine) (covers : CoversGates g) (stored x : Bits) (faults : ForcedNets) (v : ℕ → Bool) (values : GateValues g.machine stored x faults v) where
  latch_at : (k : ℕ) → k < length g.machine.latches → slice_get (latch_nets g.machine) k ≡ Some (g.machine.inputs + k)
  latch_at k h =
      slice_get-get_or (latch_nets g.machine) k 0 (subst (λ (n : ℕ). k < n) (sym (latches_long g)) h)
      ∙ ap (λ (n : ℕ). Some n) (get_or-range_with_len g.machine.inputs (length g.machine.latches) k 0 h)

  module _ (cells : List ℕ) (among : AreAmong cells faults) where
    shows_right : (right : Bits) → IsRightBut g cells stored right → IsRightBut g cells (map v (latch_nets g.machine)) right
    shows_right right but k h none = shows_stored g stored x faults v values k h (other_cells faults among) ∙ but k h none
      where
        own_cell : owned g (latch_bit k) (g.machine.inputs + k) ≡ true
        own_cell = owned_from_cell g is_machine covers (latch_bit k) (g.machine.inputs + k) (inr (latch_at k h))

        other_cells : (fs : ForcedNets) → AreAmong cells fs → AllByRecursion (λ (e : ℕ × Bool). e.0 ≢ g.machine.inputs + k) fs
        other_cells [] a = tt
        other_cells (e ∷ fs) a = (
          (λ same. let t : true ≡ false = sym own_cell ∙ (ap (owned g (latch_bit k)) (sym same) ∙ not_any_at (owned g (latch_bit k)) cells e.0 none a.0) in cc t),
          other_cells fs a.1,
        )

    -- The shown state is at most as many places apart from the right one as there are cells to blame.
    pub shown_near : (right : Bits) → length right ≡ length g.machine.latches → IsRightBut g cells stored right → apart (map v (latch_nets g.machine)) right ≤ length cells
    shown_near right long but =
        lists_apart (λ k n. owned g (latch_bit k) n) (map v (latch_nets g.machine)) right (length g.machine.latches) (shown_long g stored x faults v values) long
        (one_latch g (range_with_len 0 (length g.machine.latches)) (ranges_are_distinct 0 (length g.machine.latches))) cells (shows_right right but)

row_fits : (i n r : ℕ) → i < n → i * r + r ≤ n * r
row_fits i n r h = let k : suc i * r ≤ n * r = mul-le-mul_right r h in omega arith

pub each_passes : {A : Type 0} (P Q : A → Type 0) → ((x : A) → P x → Q x) → (xs : List A) → AllByRecursion P xs → AllByRecursion Q xs
each_passes P Q f [] a = tt
each_passes P Q f (x ∷ xs) a = (f x a.0, each_passes P Q f xs a.1)

-- The words of a partition.
pub partition_distinct : (n k : ℕ) (words : Words) → IsPartition n k words → AllByRecursion (λ w. AreDistinct w) words
partition_distinct n k words p = parts_are_distinct words (λ j. by_place j (order j n))
  where
    order : (a b : ℕ) → (a < b) ⊎ (b ≤ a)
    order a b = grind arith

    by_place : (j : ℕ) → (j < n) ⊎ (n ≤ j) → number (λ k. k == j) (all_numbers words) ≤ 1
    by_place j (inl h) = let e = number_counts (λ k. k == j) (all_numbers words) in let f = p.each_once j h in omega arith
    by_place j (inr h) = let e = number_below (all_numbers words) n j p.no_other h in omega arith

length_all_checks : (code : Code) → IsCode code → (y : Bits) (ws : Words) → length (flat_map (λ w. checks_of code (bits_at w y)) ws) ≡ length ws * code.columns
length_all_checks code is_code y [] = omega arith
length_all_checks code is_code y (w ∷ ws) =
    let a = length-append (checks_of code (bits_at w y)) (flat_map (λ w. checks_of code (bits_at w y)) ws) in
    let b = length_checks code.columns code.rows is_code.full (bits_at w y) in
    let e = length_all_checks code is_code y ws in
    omega arith

-- what holds of each word with its number
pub each_numbered : (P : ℕ × List ℕ → Type 0) (ws : Words) → ((i : ℕ) (e : List ℕ) → i < length ws → P (i, get_or ws i e)) → AllByRecursion P (enumerate_from 0 ws)
each_numbered P ws h = recursion_from_All P (enumerate_from 0 ws) at
  where
    at : (k : ℕ) (e : ℕ × List ℕ) → k < length (enumerate_from 0 ws) → P (get_or (enumerate_from 0 ws) k e)
    at k e inside =
        let short : k < length ws = subst (λ (n : ℕ). k < n) (length-enumerate_from 0 ws) inside in
        subst P (sym (get_or-enumerate_from 0 ws k e short ∙ ap (λ (n : ℕ). (n, get_or ws k e.1)) (zero-add k))) (h k e.1 short)

mapped_front : (y more : Bits) (n : ℕ) → length y ≡ n → (ks : List ℕ) → AllByRecursion (λ k. k < n) ks → map (λ k. get_or y k false) ks ≡ map (λ k. get_or (y ++ more) k false) ks
mapped_front y more n e [] below = refl
mapped_front y more n e (k ∷ ks) below = ap₂ (λ (b : Bool) (bs : Bits). b ∷ bs) (sym (get_or_append_left y more false k (subst (λ (m : ℕ). k < m) (sym e) below.0))) (mapped_front y more n e ks below.1)

module _ (code : Code) (is_code : IsCode code) (y : Bits) (p : ℕ) (long : length y ≡ p) (ws : Words) where
  -- the check bits of a word stand at their place among the right outputs
  checks_at : (i : ℕ) (e : List ℕ) → i < length ws → checks_of code (bits_at (get_or ws i e) y) ≡ map (λ k. get_or (y ++ flat_map (λ w. checks_of code (bits_at w y)) ws) k false) (range_with_len (p + i * code.columns) code.columns)
  checks_at i e h = ext_get_or false _ _ (one_long ∙ sym (length-map-range_with_len right (p + i * code.columns) code.columns)) each
    where
      f : List ℕ → Bits
      f w = checks_of code (bits_at w y)

      right : ℕ → Bool
      right k = get_or (y ++ flat_map (λ w. checks_of code (bits_at w y)) ws) k false

      one_long : length (checks_of code (bits_at (get_or ws i e) y)) ≡ code.columns
      one_long = length_checks code.columns code.rows is_code.full (bits_at (get_or ws i e) y)

      before : length (flat_map (λ w. checks_of code (bits_at w y)) (take i ws)) ≡ i * code.columns
      before = length_all_checks code is_code y (take i ws) ∙ ap (λ (n : ℕ). n * code.columns) (length-take i ws ∙ small)
        where
          small : Rattle.std.proofs.Common.min i (length ws) ≡ i
          small = omega arith

      each : (j : ℕ) → j < length (checks_of code (bits_at (get_or ws i e) y)) → get_or (checks_of code (bits_at (get_or ws i e) y)) j false ≡ get_or (map (λ k. get_or (y ++ flat_map (λ w. checks_of code (bits_at w y)) ws) k false) (range_with_len (p + i * code.columns) code.columns)) j false
      each j within =
          let inner : j < code.columns = subst (λ (n : ℕ). j < n) one_long within in
          sym (get_or-flat_map (λ w. checks_of code (bits_at w y)) ws i j e false h within)
          ∙ (sym (get_or-append-add y (flat_map (λ w. checks_of code (bits_at w y)) ws) (length (flat_map (λ w. checks_of code (bits_at w y)) (take i ws)) + j) false)
          ∙ (ap (λ (k : ℕ). get_or (y ++ flat_map (λ w. checks_of code (bits_at w y)) ws) k false) (placed j)
          ∙ sym (get_or-map-range_with_len (λ k. get_or (y ++ flat_map (λ w. checks_of code (bits_at w y)) ws) k false) (p + i * code.columns) code.columns j ((p + i * code.columns) + j) false inner refl)))
        where
          placed : (j : ℕ) → length y + (length (flat_map (λ w. checks_of code (bits_at w y)) (take i ws)) + j) ≡ (p + i * code.columns) + j
          placed j = let b = before in omega arith

module _ (g : Guarded) (source : Machine) (code : Code) (d : ℕ) (mode : Mode) (radius : ℕ) (l : Layout) (coded : IsCoded source code d l) (built : IsBuilt g source code mode radius l) where
  pub right_long : (s : Bits) → length (codewords code l.state s) ≡ length g.machine.latches
  right_long s =
      same_lengths code coded.is_code l.state s (map (λ r. r.init) source.latches)
      ∙ (sym (ap (λ (bs : Bits). length bs) built.inits) ∙ length-map g.machine.latches (λ r. r.init))

  module _ (x s y next stored : Bits) (faults : ForcedNets) (v : ℕ → Bool) (step : GateStep source [] x s y next) (values : GateValues g.machine stored x faults v) where
    outputs_long : length y ≡ length source.outputs
    outputs_long = sym (ap (λ (bs : Bits). length bs) step.outputs) ∙ length-map source.outputs step.values

    right_outputs_long : length (right_outputs code l y) ≡ length source.outputs + length l.output * code.columns
    right_outputs_long =
        length-append y (flat_map (λ w. checks_of code (bits_at w y)) l.output)
        ∙ ap₂ (λ (a b : ℕ). a + b) outputs_long (length_all_checks code coded.is_code y l.output)

    -- the shown state words are near, as far as there are cells to blame
    pub state_near : (cells : List ℕ) → AreAmong cells faults → IsRightBut g cells stored (codewords code l.state s) → StateWordsAre code (λ w z. apart z (encoded code (bits_at w s)) ≤ length cells) l.state (map v (latch_nets g.machine)) 0
    state_near cells among but =
        words_near code coded.is_code s (length cells) l.state (map v (latch_nets g.machine)) 0
        (shown_long g stored x faults v values ∙ sym (right_long s))
        (shown_near g built.is_machine built.covers stored x faults v values cells among (codewords code l.state s) (right_long s) but)

    module _ (near : StateWordsAre code (IsNear code mode radius s) l.state (map v (latch_nets g.machine)) 0) (cells : List ℕ) (among : AreAmong cells faults) where
      -- next stored bits are right but for the cells of the cycle
      pub stores_right : IsRightBut g cells (map v (map (λ r. r.d) g.machine.latches)) (codewords code l.state next)
      stores_right k h none =
          let ds = map (λ r. r.d) g.machine.latches in
          let inside : k < length (map (λ r. r.d) g.machine.latches) = subst (λ (n : ℕ). k < n) (sym (length-map g.machine.latches (λ r. r.d))) h in
          let keeps = built.counts x s y next stored faults v step values in
          let right = keeps.stores near k (get_or (map (λ r. r.d) g.machine.latches) k 0) (slice_get-get_or (map (λ r. r.d) g.machine.latches) k 0 inside) (untouched g built.is_machine built.covers (latch_bit k) cells none faults among) in
          let there : slice_get (codewords code l.state next) k ≡ Some (get_or (codewords code l.state next) k false) = slice_get-get_or (codewords code l.state next) k false (subst (λ (n : ℕ). k < n) (sym (right_long next)) h) in
          get_or-map v (map (λ r. r.d) g.machine.latches) k 0 false inside ∙ same_Some _ _ (right ∙ there)

      pub stores_near : apart (map v (map (λ r. r.d) g.machine.latches)) (codewords code l.state next) ≤ length cells
      stores_near =
          lists_apart (λ k n. owned g (latch_bit k) n) (map v (map (λ r. r.d) g.machine.latches)) (codewords code l.state next) (length g.machine.latches)
          (length-map (map (λ r. r.d) g.machine.latches) v ∙ length-map g.machine.latches (λ r. r.d)) (right_long next)
          (one_latch g (range_with_len 0 (length g.machine.latches)) (ranges_are_distinct 0 (length g.machine.latches))) cells stores_right

      pub stored_words_near : StateWordsAre code (λ w z. apart z (encoded code (bits_at w next)) ≤ length cells) l.state (map v (map (λ r. r.d) g.machine.latches)) 0
      stored_words_near =
          words_near code coded.is_code next (length cells) l.state (map v (map (λ r. r.d) g.machine.latches)) 0
          (length-map (map (λ r. r.d) g.machine.latches) v ∙ (length-map g.machine.latches (λ r. r.d) ∙ sym (right_long next))) stores_near

      -- so are the outputs, rails left out
      outputs_right : (k : ℕ) → k < length source.outputs + length l.output * code.columns → list_any (owned g (output_bit k)) cells ≡ false → get_or (map v g.machine.outputs) k false ≡ get_or (right_outputs code l y) k false
      outputs_right k h none =
          let all_long = built.outputs in
          let inside : k < length g.machine.outputs = omega arith in
          let short : k < length (right_outputs code l y) = subst (λ (n : ℕ). k < n) (sym right_outputs_long) h in
          let keeps = built.counts x s y next stored faults v step values in
          let right = keeps.outputs near k (get_or g.machine.outputs k 0) (slice_get-get_or g.machine.outputs k 0 inside) short (untouched g built.is_machine built.covers (output_bit k) cells none faults among) in
          get_or-map v g.machine.outputs k 0 false inside ∙ same_Some _ _ (right ∙ slice_get-get_or (right_outputs code l y) k false short)

      one_output_word : (i : ℕ) (e : List ℕ) → i < length l.output → apart (output_word code (length source.outputs) (map v g.machine.outputs) (i, get_or l.output i e)) (encoded code (bits_at (get_or l.output i e) y)) ≤ length cells
      one_output_word i e h =
          subst₂' (λ (a b : Bits). apart a b ≤ length cells) (sym shown_is) (sym right_is)
          (apart_by_cells (λ k n. owned g (output_bit k) n) shown right places (one_output g places once) cells all)
        where
          p : ℕ
          p = length source.outputs

          word : List ℕ
          word = get_or l.output i e

          start : ℕ
          start = length source.outputs + i * code.columns

          places : List ℕ
          places = get_or l.output i e ++ range_with_len (length source.outputs + i * code.columns) code.columns

          shown : ℕ → Bool
          shown k = get_or (map v g.machine.outputs) k false

          right : ℕ → Bool
          right k = get_or (right_outputs code l y) k false

          subst₂' : (P : Bits → Bits → Type 0) {a b a' b' : Bits} → a ≡ a' → b ≡ b' → P a b → P a' b'
          subst₂' P {b = b} {a' = a'} f h p = subst (λ (w : Bits). P a' w) h (subst (λ (w : Bits). P w b) f p)

          below : AllByRecursion (λ k. k < length source.outputs) (get_or l.output i e)
          below = All-from_recursion (λ w. AllByRecursion (λ k. k < length source.outputs) w) l.output (parts_are_below l.output (length source.outputs) coded.output_words.no_other) i e h

          once : AreDistinct (get_or l.output i e ++ range_with_len (length source.outputs + i * code.columns) code.columns)
          once = distinct_behind (get_or l.output i e) (length source.outputs) (length source.outputs + i * code.columns) code.columns
              (All-from_recursion (λ w. AreDistinct w) l.output (partition_distinct _ _ l.output coded.output_words) i e h) below (omega arith)

          fits : (length source.outputs + i * code.columns) + code.columns ≤ length source.outputs + length l.output * code.columns
          fits = let k = row_fits i (length l.output) code.columns h in omega arith

          all : AllByRecursion (λ k. list_any (owned g (output_bit k)) cells ≡ false → get_or (map v g.machine.outputs) k false ≡ get_or (right_outputs code l y) k false) (get_or l.output i e ++ range_with_len (length source.outputs + i * code.columns) code.columns)
          all =
              let total = fits in
              All_append _ (get_or l.output i e) (range_with_len (length source.outputs + i * code.columns) code.columns)
              (each_passes (λ k. k < length source.outputs) _ (λ k small. outputs_right k (omega arith)) (get_or l.output i e) below)
              (All_below _ (length source.outputs + i * code.columns) code.columns (λ k low high. outputs_right k (omega arith)))

          shown_is : output_word code (length source.outputs) (map v g.machine.outputs) (i, get_or l.output i e) ≡ map (λ k. get_or (map v g.machine.outputs) k false) (get_or l.output i e ++ range_with_len (length source.outputs + i * code.columns) code.columns)
          shown_is =
              ap (λ (bs : Bits). bits_at (get_or l.output i e) (map v g.machine.outputs) ++ bs) (range_as_map (map v g.machine.outputs) (length source.outputs + i * code.columns) code.columns room)
              ∙ sym (map-append shown (get_or l.output i e) (range_with_len (length source.outputs + i * code.columns) code.columns))
            where
              room : (length source.outputs + i * code.columns) + code.columns ≤ length (map v g.machine.outputs)
              room = let k = fits in let b = built.outputs in let e = length-map g.machine.outputs v in omega arith

          right_is : encoded code (bits_at (get_or l.output i e) y) ≡ map (λ k. get_or (right_outputs code l y) k false) (get_or l.output i e ++ range_with_len (length source.outputs + i * code.columns) code.columns)
          right_is =
              ap₂ (λ (xs ys : Bits). xs ++ ys)
              (mapped_front y (flat_map (λ w. checks_of code (bits_at w y)) l.output) (length source.outputs) outputs_long (get_or l.output i e) below)
              (checks_at code coded.is_code y (length source.outputs) outputs_long l.output i e h)
              ∙ sym (map-append right (get_or l.output i e) (range_with_len (length source.outputs + i * code.columns) code.columns))

      pub outputs_near : AllByRecursion (λ (w : ℕ × List ℕ). apart (output_word code (length source.outputs) (map v g.machine.outputs) w) (encoded code (bits_at w.1 y)) ≤ length cells) (enumerate_from 0 l.output)
      outputs_near = each_numbered _ l.output one_output_word

      -- Few bits are wrong.
      pub wrong_in_few : IsWrongInFew g code l (length source.outputs) (length cells) y next v
      wrong_in_few = record { stored = stores_near; words = stored_words_near; outputs = outputs_near }
