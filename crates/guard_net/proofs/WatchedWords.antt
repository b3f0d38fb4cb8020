-- The words that rails watch: they fit the code, their nets are there, and a rail over them costs what it ought to.
use Rattle.std.proofs.Common.{◌≡◌, refl, sym, ◌∙◌, ap, ap₂, subst, ℕ, zero, suc, ◌+◌, ◌-◌, ◌*◌, ◌<◌, ◌≤◌, List, [], ◌∷◌, ◌++◌, length, map, get_or, take, drop, arith, append_assoc}
use Rattle.std.specs.Prelude.{slice_range, sum_by}
use Rattle.std.specs.List.{AllByRecursion, enumerate_from, flat_map, range_with_len}
use Rattle.std.proofs.lemmas.List.{length-map, length-drop, length-take-le, drop-append-le, get_or_append_left, take-append-le}
use Rattle.std.proofs.lemmas.List.FromFn.{length-range_with_len}
use Rattle.std.proofs.lemmas.List.Sums.{sum_by-append, sum_by-cons}
use Rattle.netlist_spec.proofs.OneValue.{All_append}
use Rattle.netlist_spec.specs.Gates.{Machine}
use Rattle.guard_spec.specs.Codes.{Code, data_places}
use Rattle.guard_spec.specs.Plain.{ones, rail_cost}
use Rattle.guard_spec.specs.Words.{IsPartition, Layout, Words}
use Rattle.gate_net.specs.Words.{WordNets, nets_of}
use Rattle.alarm_rails.specs.Rail.{FitsCode, rail_cells}
use Rattle.guard_laws.specs.Places.{latches_of_words}
use Rattle.guard_laws.specs.Watched.{output_nets_of, state_nets, watched_words}
use Rattle.guard_net.specs.Built.{words_to_watch}
use Rattle.guard_net.proofs.Lists.{IsWordOf, each_word}

-- ---- parts

part_long : (xs : List ℕ) (a n : ℕ) → a + n ≤ length xs → length (slice_range xs a (a + n)) ≡ n
part_long xs a n h =
    ap (λ (k : ℕ). length (take k (drop a xs))) (let e : (a + n) - a ≡ n = omega arith in e)
    ∙ length-take-le n (drop a xs) (let e = length-drop a xs in omega arith)

range_below : (a n m : ℕ) → a + n ≤ m → AllByRecursion (λ k. k < m) (range_with_len a n)
range_below a zero m h = tt
range_below a (suc n) m h = (omega arith, range_below (a + 1) n m (omega arith))

taken : (P : ℕ → Type 0) (n : ℕ) (xs : List ℕ) → AllByRecursion P xs → AllByRecursion P (take n xs)
taken P zero xs h = tt
taken P (suc n) [] h = tt
taken P (suc n) (x ∷ xs) h = (h.0, taken P n xs h.1)

dropped : (P : ℕ → Type 0) (n : ℕ) (xs : List ℕ) → AllByRecursion P xs → AllByRecursion P (drop n xs)
dropped P zero xs h = h
dropped P (suc n) [] h = tt
dropped P (suc n) (x ∷ xs) h = dropped P n xs h.1

at_numbers : (P : ℕ → Type 0) (xs word : List ℕ) → AllByRecursion P xs → AllByRecursion (λ i. i < length xs) word → AllByRecursion P (map (λ i. get_or xs i 0) word)
at_numbers P xs [] h k = tt
at_numbers P xs (i ∷ word) h k = (here xs i h k.0, at_numbers P xs word h k.1)
  where
    here : (ns : List ℕ) (j : ℕ) → AllByRecursion P ns → j < length ns → P (get_or ns j 0)
    here [] j a g = absurd (omega arith)
    here (n ∷ ns) zero a g = a.0
    here (n ∷ ns) (suc j) a g = here ns j a.1 (omega arith)

weaker : (n m : ℕ) (word : List ℕ) → n ≤ m → AllByRecursion (λ i. i < n) word → AllByRecursion (λ i. i < m) word
weaker n m [] h k = tt
weaker n m (i ∷ word) h k = (let g = k.0 in omega arith, weaker n m word h k.1)

-- the check outputs of a word lie among all of them
rows_fit : (i n k : ℕ) → i < n → i * k + k ≤ n * k
rows_fit i n k h = grind arith

-- ---- state words

module _ (code : Code) where
  fit_state : (at n : ℕ) (words : Words) → AllByRecursion (IsWordOf n (data_places code)) words → AllByRecursion (FitsCode code) (state_nets code at words)
  fit_state at n [] h = tt
  fit_state at n (w ∷ words) h = (
    record {
      places = (let e = length-range_with_len at (length w) in let m = h.0.most in omega arith);
      checks = length-range_with_len (at + length w) code.columns;
    },
    fit_state (at + length w + code.columns) n words h.1,
  )

  below_state : (at m : ℕ) (words : Words) → at + latches_of_words code words ≤ m → AllByRecursion (λ k. k < m) (flat_map nets_of (state_nets code at words))
  below_state at m [] h = tt
  below_state at m (w ∷ words) h =
      let s = sum_by-cons (λ (v : List ℕ). length v + code.columns) w words in
      All_append (λ k. k < m) (range_with_len at (length w) ++ range_with_len (at + length w) code.columns) (flat_map nets_of (state_nets code (at + length w + code.columns) words))
      (All_append (λ k. k < m) (range_with_len at (length w)) (range_with_len (at + length w) code.columns) (range_below at (length w) m (omega arith)) (range_below (at + length w) code.columns m (omega arith)))
      (below_state (at + length w + code.columns) m words (omega arith))

  abbrev rail_part : List WordNets → ℕ
  rail_part words = sum_by (λ w. ones code (length w.places) + 2 * code.columns) words

  abbrev word_part : Words → ℕ
  word_part words = sum_by (λ w. ones code (length w) + 2 * code.columns) words

  state_part : (at : ℕ) (words : Words) → rail_part (state_nets code at words) ≡ word_part words
  state_part at [] = refl
  state_part at (w ∷ words) =
      let first : WordNets = record { places = range_with_len at (length w); checks = range_with_len (at + length w) code.columns } in
      let a = sum_by-cons (λ (v : WordNets). ones code (length v.places) + 2 * code.columns) first (state_nets code (at + length w + code.columns) words) in
      let b = sum_by-cons (λ (v : List ℕ). ones code (length v) + 2 * code.columns) w words in
      let c = state_part (at + length w + code.columns) words in
      let d = ap (ones code) (length-range_with_len at (length w)) in
      omega (arith, a, b, c, d)

  -- ---- output words

  module _ (shown : ℕ) (outputs : List ℕ) where
    abbrev rows : ℕ → Words → List WordNets
    rows i words = map (output_nets_of code shown outputs) (enumerate_from i words)

    fit_outputs : (i n : ℕ) (words : Words) → AllByRecursion (IsWordOf n (data_places code)) words → shown + (i + length words) * code.columns ≤ length outputs → AllByRecursion (FitsCode code) (rows i words)
    fit_outputs i n [] h room = tt
    fit_outputs i n (w ∷ words) h room =
        let fits = rows_fit i (i + suc (length words)) code.columns (omega arith) in (
          record {
            places = (let e = length-map w (λ j. get_or outputs j 0) in let m = h.0.most in omega arith);
            checks = part_long outputs (shown + i * code.columns) code.columns (omega arith);
          },
          fit_outputs (i + 1) n words h.1 (subst (λ (k : ℕ). shown + k * code.columns ≤ length outputs) (let e : i + suc (length words) ≡ (i + 1) + length words = omega arith in e) room),
        )

    below_outputs : (i m : ℕ) (words : Words) → AllByRecursion (IsWordOf shown (data_places code)) words → shown ≤ length outputs → AllByRecursion (λ k. k < m) outputs → AllByRecursion (λ k. k < m) (flat_map nets_of (rows i words))
    below_outputs i m [] h room below = tt
    below_outputs i m (w ∷ words) h room below =
        let a : ℕ = shown + i * code.columns in
        All_append (λ k. k < m) (map (λ j. get_or outputs j 0) w ++ slice_range outputs a (a + code.columns)) (flat_map nets_of (rows (i + 1) words))
        (All_append (λ k. k < m) (map (λ j. get_or outputs j 0) w) (slice_range outputs a (a + code.columns))
        (at_numbers (λ k. k < m) outputs w below (weaker shown (length outputs) w room h.0.within)) (taken (λ k. k < m) ((a + code.columns) - a) (drop a outputs) (dropped (λ k. k < m) a outputs below)))
        (below_outputs (i + 1) m words h.1 room below)

    output_part : (i : ℕ) (words : Words) → rail_part (rows i words) ≡ word_part words
    output_part i [] = refl
    output_part i (w ∷ words) =
        let a = sum_by-cons (λ (v : WordNets). ones code (length v.places) + 2 * code.columns) (output_nets_of code shown outputs (i, w)) (rows (i + 1) words) in
        let b = sum_by-cons (λ (v : List ℕ). ones code (length v) + 2 * code.columns) w words in
        let c = output_part (i + 1) words in
        let d = ap (ones code) (length-map w (λ j. get_or outputs j 0)) in
        omega (arith, a, b, c, d)

-- ---- all words

module _ (code : Code) (l : Layout) (inputs shown : ℕ) (outputs : List ℕ) where
  pub watched_fit : (latches : ℕ) → IsPartition latches (data_places code) l.state → IsPartition shown (data_places code) l.output → length outputs ≡ shown + length l.output * code.columns
      → AllByRecursion (FitsCode code) (words_to_watch code l inputs shown outputs)
  watched_fit latches state output long =
      All_append (FitsCode code) (state_nets code inputs l.state) (rows code shown outputs 0 l.output)
      (fit_state code inputs latches l.state (each_word latches (data_places code) l.state state))
      (fit_outputs code shown outputs 0 shown l.output (each_word shown (data_places code) l.output output)
      (let e = ap (λ (k : ℕ). shown + k * code.columns) (let f : 0 + length l.output ≡ length l.output = omega arith in f) in omega (arith, e, long)))

  pub watched_below : (m : ℕ) → inputs + latches_of_words code l.state ≤ m → IsPartition shown (data_places code) l.output → length outputs ≡ shown + length l.output * code.columns → AllByRecursion (λ k. k < m) outputs
      → AllByRecursion (λ k. k < m) (flat_map nets_of (words_to_watch code l inputs shown outputs))
  watched_below m leaves output long below =
      subst (λ (ns : List ℕ). AllByRecursion (λ k. k < m) ns) (sym (flat_join (state_nets code inputs l.state) (rows code shown outputs 0 l.output)))
      (All_append (λ k. k < m) (flat_map nets_of (state_nets code inputs l.state)) (flat_map nets_of (rows code shown outputs 0 l.output))
      (below_state code inputs m l.state leaves) (below_outputs code shown outputs 0 m l.output (each_word shown (data_places code) l.output output) (omega arith) below))
    where
      flat_join : (xs ys : List WordNets) → flat_map nets_of (xs ++ ys) ≡ flat_map nets_of xs ++ flat_map nets_of ys
      flat_join [] ys = refl
      flat_join (x ∷ xs) ys = ap (λ (ns : List ℕ). nets_of x ++ ns) (flat_join xs ys) ∙ sym (append_assoc (nets_of x) (flat_map nets_of xs) (flat_map nets_of ys))

  pub watched_cost : rail_cells code (words_to_watch code l inputs shown outputs) ≡ rail_cost code l
  watched_cost =
      let a = sum_by-append (λ (v : WordNets). ones code (length v.places) + 2 * code.columns) (state_nets code inputs l.state) (rows code shown outputs 0 l.output) in
      let b = state_part code inputs l.state in
      let c = output_part code shown outputs 0 l.output in
      omega (arith, a, b, c)

-- the words, from what was pushed
pub watched_are : (code : Code) (l : Layout) (inputs i shown n : ℕ) (outputs outs : List ℕ) (state output : Words) (first before all : List WordNets) → i ≡ inputs → n ≡ shown → outs ≡ outputs → state ≡ l.state → output ≡ l.output
    → first ≡ [] → before ≡ first ++ state_nets code i state → all ≡ before ++ map (output_nets_of code n outs) (enumerate_from 0 output) → all ≡ words_to_watch code l inputs shown outputs
watched_are code l inputs i shown n outputs outs state output first before all a b c d e none pushed more =
    let rows_are : map (output_nets_of code n outs) (enumerate_from 0 output) ≡ rows code shown outputs 0 l.output
    = ap (λ (k : ℕ). map (output_nets_of code k outs) (enumerate_from 0 output)) b
    ∙ (ap (λ (os : List ℕ). map (output_nets_of code shown os) (enumerate_from 0 output)) c ∙ ap (λ (ws : Words). map (output_nets_of code shown outputs) (enumerate_from 0 ws)) e) in
    let state_are : before ≡ state_nets code inputs l.state = pushed ∙ (ap (λ (ws : List WordNets). ws ++ state_nets code i state) none ∙ ap₂ (state_nets code) a d) in
    more ∙ ap₂ (λ (xs ys : List WordNets). xs ++ ys) state_are rows_are

-- more outputs behind the others change nothing
abbrev pair_of : List ℕ → List ℕ → WordNets
pair_of ps cs = record { places = ps; checks = cs }

module _ (code : Code) (shown : ℕ) (outputs more : List ℕ) where
  places_stay : (word : List ℕ) → AllByRecursion (λ i. i < length outputs) word → map (λ i. get_or (outputs ++ more) i 0) word ≡ map (λ i. get_or outputs i 0) word
  places_stay [] h = refl
  places_stay (i ∷ word) h = ap₂ (λ (n : ℕ) (ns : List ℕ). n ∷ ns) (get_or_append_left outputs more 0 i h.0) (places_stay word h.1)

  part_stays : (a n : ℕ) → a + n ≤ length outputs → slice_range (outputs ++ more) a (a + n) ≡ slice_range outputs a (a + n)
  part_stays a n h =
      ap (take ((a + n) - a)) (drop-append-le a outputs more (omega arith))
      ∙ take-append-le ((a + n) - a) (drop a outputs) more (let e = length-drop a outputs in omega arith)

  rows_stay : (i : ℕ) (words : Words) → AllByRecursion (IsWordOf shown (data_places code)) words → shown + (i + length words) * code.columns ≤ length outputs → shown ≤ length outputs → rows code shown (outputs ++ more) i words ≡ rows code shown outputs i words
  rows_stay i [] h room few = refl
  rows_stay i (w ∷ words) h room few =
      let fits = rows_fit i (i + suc (length words)) code.columns (omega arith) in
      let same : output_nets_of code shown (outputs ++ more) (i, w) ≡ output_nets_of code shown outputs (i, w)
      = ap₂ (λ (ps cs : List ℕ). pair_of ps cs) (places_stay w (weaker shown (length outputs) w few h.0.within)) (part_stays (shown + i * code.columns) code.columns (omega arith)) in
      ap₂ (λ (v : WordNets) (vs : List WordNets). v ∷ vs) same
      (rows_stay (i + 1) words h.1 (subst (λ (k : ℕ). shown + k * code.columns ≤ length outputs) (let e : i + suc (length words) ≡ (i + 1) + length words = omega arith in e) room) few)

pub still_watched : (g : Machine) (code : Code) (l : Layout) (inputs shown : ℕ) (outputs more : List ℕ) → g.inputs ≡ inputs → g.outputs ≡ outputs ++ more → IsPartition shown (data_places code) l.output → length outputs ≡ shown + length l.output * code.columns
    → words_to_watch code l inputs shown outputs ≡ watched_words g code l shown
still_watched g code l inputs shown outputs more a b output long =
    let same : rows code shown g.outputs 0 l.output ≡ rows code shown outputs 0 l.output
    = ap (λ (os : List ℕ). rows code shown os 0 l.output) b
    ∙ rows_stay code shown outputs more 0 l.output (each_word shown (data_places code) l.output output)
    (let e = ap (λ (k : ℕ). shown + k * code.columns) (let f : 0 + length l.output ≡ length l.output = omega arith in f) in omega (arith, e, long)) (omega (arith, long)) in
    ap₂ (λ (xs ys : List WordNets). xs ++ ys) (ap (λ (k : ℕ). state_nets code k l.state) (sym a)) (sym same)
