-- The data places of latches, put word by word.
use Rattle.std.proofs.Common.{◌≡◌, ◌≢◌, refl, sym, ◌∙◌, ap, ap₂, subst, ℕ, zero, suc, ◌+◌, ◌<◌, ◌≤◌, ◌==◌, List, [], ◌∷◌, ◌++◌, length, map, get_or, set, drop, replicate, arith, slice_get, Some, cond, count_by, eq-eqb, length-append}
use Rattle.std.specs.Prelude.{slice_set, sum_by}
use Rattle.std.proofs.lemmas.List.{at_drop_more, map-append, map-set, length-set, length-replicate}
use Rattle.std.proofs.lemmas.List.FromFn.{length-range_with_len}
use Rattle.netlist_spec.proofs.OneValue.{All_append}
use Rattle.netlist_spec.specs.Gates.{Machine, IsMachine}
use Rattle.std.proofs.lemmas.List.Sums.{sum_by-cons, sum_by-append}
use Rattle.std.specs.List.{AllByRecursion, range_with_len}
use Rattle.gate_net.specs.declared.gate.NetId.{NetId}
use Rattle.gate_net.specs.Gate.{net_number}
use Rattle.guard_spec.specs.Codes.{Code, data_places}
use Rattle.guard_spec.specs.Words.{IsPartition, Layout, Words, all_numbers}
use Rattle.guard_laws.specs.Places.{AreDataPlaces, latches_of_words}
use Rattle.guard_net.specs.Built.{HasLeaves, put_word, put_words}
use Rattle.guard_net.proofs.Lists.{at_place, middle_word}

pub place_put : (at p : ℕ) (word start : List ℕ) (places : List NetId) → p < length word → start ≡ put_word (at + p) (drop p word) (map net_number places)
    → start ≡ put_word (at + (p + 1)) (drop (p + 1) word) (map net_number (set places (get_or word p 0) (record { 0 = at + p })))
place_put at p word start places h e =
    let step : put_word (at + p) (drop p word) (map net_number places) ≡ put_word (at + p + 1) (drop (p + 1) word) (slice_set (map net_number places) (get_or word p 0) (at + p))
    = at_drop_more (λ (ws : List ℕ). put_word (at + p) ws (map net_number places)) word p 0 h in
    e ∙ step
    ∙ ap₂ (λ (a : ℕ) (ns : List ℕ). put_word a (drop (p + 1) word) ns) (let f : at + p + 1 ≡ at + (p + 1) = omega arith in f) (sym (map-set net_number places (get_or word p 0) (record { 0 = at + p })))

pub no_places : (n : ℕ) → map net_number (replicate n (record { 0 = 0 })) ≡ replicate n 0
no_places zero = refl
no_places (suc n) = ap (λ (ns : List ℕ). 0 ∷ ns) (no_places n)

-- ---- each number has its place

pub put_long : (at : ℕ) (word nets : List ℕ) → length (put_word at word nets) ≡ length nets
put_long at [] nets = refl
put_long at (j ∷ word) nets = put_long (at + 1) word (slice_set nets j at) ∙ length-set nets j at

pub all_put_long : (columns at : ℕ) (words : Words) (nets : List ℕ) → length (put_words columns at words nets) ≡ length nets
all_put_long columns at [] nets = refl
all_put_long columns at (w ∷ words) nets = all_put_long columns (at + length w + columns) words (put_word at w nets) ∙ put_long at w nets

abbrev times : ℕ → List ℕ → ℕ
times j word = count_by (λ k. k == j) word

set_here : (nets : List ℕ) (j at : ℕ) → j < length nets → slice_get (slice_set nets j at) j ≡ Some at
set_here [] j at h = absurd (omega arith)
set_here (n ∷ nets) zero at h = refl
set_here (n ∷ nets) (suc j) at h = set_here nets j at (omega arith)

set_other : (nets : List ℕ) (i j at : ℕ) → i ≢ j → slice_get (slice_set nets i at) j ≡ slice_get nets j
set_other [] i j at e = refl
set_other (n ∷ nets) zero zero at e = absurd (e refl)
set_other (n ∷ nets) zero (suc j) at e = refl
set_other (n ∷ nets) (suc i) zero at e = refl
set_other (n ∷ nets) (suc i) (suc j) at e = set_other nets i j at (λ f. e (ap suc f))

one_more : (j k : ℕ) (word : List ℕ) → times j (k ∷ word) ≡ cond (k == j) 1 0 + times j word
one_more j k word = sum_by-cons (λ (i : ℕ). cond (i == j) 1 0) k word

-- a number that doesn't stand in the word keeps its net
put_other : (at j : ℕ) (word nets : List ℕ) → times j word ≡ 0 → slice_get (put_word at word nets) j ≡ slice_get nets j
put_other at j [] nets none = refl
put_other at j (k ∷ word) nets none =
    let e = one_more j k word in
    put_other (at + 1) j word (slice_set nets k at) (omega arith)
    ∙ set_other nets k j at (λ f. let g : cond {A = ℕ} (k == j) 1 0 ≡ 1 = ap (λ b. cond {A = ℕ} b 1 0) (eq-eqb k j f) in omega arith)

put_others : (columns at j : ℕ) (words : Words) (nets : List ℕ) → times j (all_numbers words) ≡ 0 → slice_get (put_words columns at words nets) j ≡ slice_get nets j
put_others columns at j [] nets none = refl
put_others columns at j (w ∷ words) nets none =
    let e : times j (w ++ all_numbers words) ≡ times j w + times j (all_numbers words) = sum_by-append (λ (i : ℕ). cond (i == j) 1 0) w (all_numbers words) in
    put_others columns (at + length w + columns) j words (put_word at w nets) (omega arith) ∙ put_other at j w nets (omega arith)

-- one that stands in it once has its place
put_here : (at j p : ℕ) (word nets : List ℕ) → times j word ≤ 1 → j < length nets → slice_get word p ≡ Some j → slice_get (put_word at word nets) j ≡ Some (at + p)
put_here at j p [] nets once h is = absurd (cc is)
put_here at j zero (k ∷ word) nets once h is =
    let same : k ≡ j = cc is in
    let e = one_more j k word in
    let f : cond {A = ℕ} (k == j) 1 0 ≡ 1 = ap (λ b. cond {A = ℕ} b 1 0) (eq-eqb k j same) in
    put_other (at + 1) j word (slice_set nets k at) (omega arith)
    ∙ ap (λ (i : ℕ). slice_get (slice_set nets i at) j) same ∙ set_here nets j at h ∙ ap (λ (n : ℕ). Some n) (let g : at ≡ at + 0 = omega arith in g)
put_here at j (suc p) (k ∷ word) nets once h is =
    let e = one_more j k word in
    put_here (at + 1) j p word (slice_set nets k at) (omega arith) (let l = length-set nets k at in omega arith) is
    ∙ ap (λ (n : ℕ). Some n) (let g : at + 1 + p ≡ at + suc p = omega arith in g)

stands_in_word : (j p : ℕ) (word : List ℕ) → slice_get word p ≡ Some j → 1 ≤ times j word
stands_in_word j p [] is = absurd (cc is)
stands_in_word j zero (k ∷ word) is =
    let same : k ≡ j = cc is in
    let e = one_more j k word in
    let f : cond {A = ℕ} (k == j) 1 0 ≡ 1 = ap (λ b. cond {A = ℕ} b 1 0) (eq-eqb k j same) in
    omega arith
stands_in_word j (suc p) (k ∷ word) is = let e = one_more j k word in let h = stands_in_word j p word is in omega arith

place_of : (code : Code) (at j p : ℕ) (before after : Words) (w nets : List ℕ) → times j (all_numbers (before ++ w ∷ after)) ≤ 1 → j < length nets → slice_get w p ≡ Some j
    → slice_get (put_words code.columns at (before ++ w ∷ after) nets) j ≡ Some (at + (latches_of_words code before + p))
place_of code at j p [] after w nets once h is =
    let e : times j (w ++ all_numbers after) ≡ times j w + times j (all_numbers after) = sum_by-append (λ (i : ℕ). cond (i == j) 1 0) w (all_numbers after) in
    let some = stands_in_word j p w is in
    put_others code.columns (at + length w + code.columns) j after (put_word at w nets) (omega arith)
    ∙ put_here at j p w nets (omega arith) h is ∙ ap (λ (n : ℕ). Some n) (let g : at + p ≡ at + (0 + p) = omega arith in g)
place_of code at j p (b ∷ before) after w nets once h is =
    let e : times j (b ++ all_numbers (before ++ w ∷ after)) ≡ times j b + times j (all_numbers (before ++ w ∷ after)) = sum_by-append (λ (i : ℕ). cond (i == j) 1 0) b (all_numbers (before ++ w ∷ after)) in
    let s = sum_by-cons (λ (v : List ℕ). length v + code.columns) b before in
    place_of code (at + length b + code.columns) j p before after w (put_word at b nets) (omega arith) (let l = put_long at b nets in omega arith) is
    ∙ ap (λ (n : ℕ). Some n) (let g : at + length b + code.columns + (latches_of_words code before + p) ≡ at + (latches_of_words code (b ∷ before) + p) = omega arith in g)

pub places_are : (code : Code) (inputs n k : ℕ) (words : Words) → IsPartition n k words → AreDataPlaces code words inputs n (put_words code.columns inputs words (replicate n 0))
places_are code inputs n k words is = record {
  count = all_put_long code.columns inputs words (replicate n 0) ∙ length-replicate n 0;
  each = λ before after w p j e at.
      let word = middle_word n k before after w (subst (λ (ws : Words). AllByRecursion (λ w. (1 ≤ length w) × (length w ≤ k)) ws) e is.lengths) (subst (λ (ws : Words). AllByRecursion (λ i. i < n) (all_numbers ws)) e is.no_other) in
      let below : j < n = at_place (λ i. i < n) w p j word.within at in
      let once : times j (all_numbers (before ++ w ∷ after)) ≡ 1 = ap (λ (ws : Words). times j (all_numbers ws)) (sym e) ∙ is.each_once j below in
      let long : length (replicate {A = ℕ} n 0) ≡ n = length-replicate {A = ℕ} n 0 in
      ap (λ (ws : Words). slice_get (put_words code.columns inputs ws (replicate n 0)) j) e
      ∙ place_of code inputs j p before after w (replicate {A = ℕ} n 0) (omega (arith, once)) (omega (arith, long, below)) at;
}

-- ---- all leaves

set_below : (m at j : ℕ) (nets : List ℕ) → at < m → AllByRecursion (λ k. k < m) nets → AllByRecursion (λ k. k < m) (slice_set nets j at)
set_below m at j [] h all = tt
set_below m at zero (n ∷ nets) h all = (h, all.1)
set_below m at (suc j) (n ∷ nets) h all = (all.0, set_below m at j nets h all.1)

put_below : (m at : ℕ) (word nets : List ℕ) → at + length word ≤ m → AllByRecursion (λ k. k < m) nets → AllByRecursion (λ k. k < m) (put_word at word nets)
put_below m at [] nets h all = all
put_below m at (j ∷ word) nets h all = put_below m (at + 1) word (slice_set nets j at) (omega arith) (set_below m at j nets (omega arith) all)

all_put_below : (code : Code) (m at : ℕ) (words : Words) (nets : List ℕ) → at + latches_of_words code words ≤ m → AllByRecursion (λ k. k < m) nets → AllByRecursion (λ k. k < m) (put_words code.columns at words nets)
all_put_below code m at [] nets h all = all
all_put_below code m at (w ∷ words) nets h all =
    let s = sum_by-cons (λ (v : List ℕ). length v + code.columns) w words in
    all_put_below code m (at + length w + code.columns) words (put_word at w nets) (omega arith) (put_below m at w nets (omega arith) all)

some_latch : (code : Code) (n k : ℕ) (words : Words) → 0 < n → IsPartition n k words → 1 ≤ latches_of_words code words
some_latch code n k [] h is = let e = is.each_once 0 h in absurd (omega (arith, e))
some_latch code n k (w ∷ words) h is = let s = sum_by-cons (λ (v : List ℕ). length v + code.columns) w words in let some = is.lengths.0.0 in omega (arith, s, some)

none_below : (m n : ℕ) → (0 < n → 0 < m) → AllByRecursion (λ k. k < m) (replicate n 0)
none_below m zero h = tt
none_below m (suc n) h = let some = h (omega arith) in (some, none_below m n (λ g. some))

inputs_below : (a n m : ℕ) → a + n ≤ m → AllByRecursion (λ k. k < m) (range_with_len a n)
inputs_below a zero m h = tt
inputs_below a (suc n) m h = (omega arith, inputs_below (a + 1) n m (omega arith))

pub leaves_are : (m : Machine) (code : Code) (l : Layout) (leaf : List ℕ) (count : ℕ) → IsMachine m → IsPartition (length m.latches) (data_places code) l.state
    → leaf ≡ range_with_len 0 m.inputs ++ put_words code.columns m.inputs l.state (replicate (length m.latches) 0) → count ≡ m.inputs + latches_of_words code l.state → HasLeaves m code l leaf count
leaves_are m code l leaf count is_machine is are all =
    let n = length m.latches in
    let places : List ℕ = put_words code.columns m.inputs l.state (replicate n 0) in
    let placed = places_are code m.inputs n (data_places code) l.state is in
    record {
      places = places;
      are_places = placed;
      are = are;
      long = (
          let a : length leaf ≡ length (range_with_len 0 m.inputs) + length places = ap length are ∙ length-append (range_with_len 0 m.inputs) places in
          let b = length-range_with_len 0 m.inputs in
          let c = placed.count in
          let d = is_machine.leaves in
          omega (arith, a, b, c, d)
          );
      all = all;
      below = subst (λ (ns : List ℕ). AllByRecursion (λ k. k < count) ns) (sym are)
          (All_append (λ k. k < count) (range_with_len 0 m.inputs) places (inputs_below 0 m.inputs count (omega (arith, all)))
          (all_put_below code count m.inputs l.state (replicate n 0) (omega (arith, all)) (none_below count n (λ h. let some = some_latch code n (data_places code) l.state h is in omega (arith, all, some)))));
    }

-- from what the passes leave
pub leaves_found : (m : Machine) (code : Code) (l : Layout) (inputs latches columns count : ℕ) (words : Words) (front places nets : List NetId) → IsMachine m → IsPartition (length m.latches) (data_places code) l.state
    → inputs ≡ m.inputs → latches ≡ length m.latches → columns ≡ code.columns → words ≡ l.state
    → map net_number front ≡ range_with_len 0 inputs → map net_number places ≡ put_words columns inputs words (replicate latches 0) → nets ≡ front ++ places
    → count ≡ inputs + sum_by (λ (w : List ℕ). length w + columns) words → HasLeaves m code l (map net_number nets) count
leaves_found m code l inputs latches columns count words front places nets is_machine is a b c d first put all many =
    leaves_are m code l (map net_number nets) count is_machine is
    (ap (map net_number) all ∙ (map-append net_number front places ∙ ap₂ (λ (xs ys : List ℕ). xs ++ ys) (first ∙ ap (range_with_len 0) a)
    (put ∙ (ap (λ (k : ℕ). put_words k inputs words (replicate latches 0)) c ∙ (ap (λ (k : ℕ). put_words code.columns k words (replicate latches 0)) a
    ∙ (ap (λ (ws : Words). put_words code.columns m.inputs ws (replicate latches 0)) d ∙ ap (λ (k : ℕ). put_words code.columns m.inputs l.state (replicate k 0)) b))))))
    (many ∙ ap₂ (λ (x y : ℕ). x + y) a (ap (λ (k : ℕ). sum_by (λ (w : List ℕ). length w + k) words) c ∙ ap (latches_of_words code) d))
