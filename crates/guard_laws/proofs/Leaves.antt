-- The data places of right state words have the bits of the source's state.
use Rattle.std.proofs.Common.{◌≡◌, refl, sym, ◌∙◌, ap, ap₂, subst, ℕ, zero, suc, ◌+◌, ◌<◌, ◌≤◌, ◌==◌, ◌⊎◌, inl, inr, Bool, true, false, cond, List, [], ◌∷◌, ◌++◌, length, map, get_or, slice_get, Some, arith, Contains, ◌≢◌, ne_eqb, ext_get_or}
use Rattle.std.specs.Prelude.{slice_range}
use Rattle.std.specs.List.{flat_map, range_with_len}
use Rattle.std.proofs.lemmas.Bool.{cases_eq}
use Rattle.std.proofs.lemmas.List.{length-map}
use Rattle.std.proofs.lemmas.List.Sums.{sum_by-cons}
use Rattle.netlist_spec.specs.SourceRun.{Bits}
use Rattle.netlist_spec.specs.Gates.{Machine}
use Rattle.guard_spec.specs.Codes.{Code, IsCode, checks_of, encoded, detect}
use Rattle.guard_spec.specs.Words.{Words, Layout, IsPartition, bits_at}
use Rattle.guard_spec.specs.Count.{StateWordsAre, IsNear}
use Rattle.guard_spec.specs.Regions.{Guarded, IsDataNet}
use Rattle.std.proofs.lemmas.Option.{same_Some}
use Rattle.std.proofs.lemmas.List.Elements.{Contains-append_cases}
use Rattle.cone_split.proofs.Cells.{contains_cases, at_contains}
use Rattle.containment.proofs.Counting.{number, number_counts, number_append, range_as_map}
use Rattle.guard_laws.specs.Places.{latches_of_words, AreDataPlaces}
use Rattle.guard_laws.specs.Rows.{StandForLeaves}
use Rattle.guard_laws.proofs.Lists.{maps_append, get_front, inside, get_map, to_or, get_of_map}
use Rattle.std.proofs.lemmas.List.FromFn.{length-range_with_len}

eq_of : (k j : ℕ) → (k == j) ≡ true → (k ≡ j) ⊎ (k ≢ j) → k ≡ j
eq_of k j e (inl same) = same
eq_of k j e (inr other) = let clash : true ≡ false = sym e ∙ ne_eqb k j other in cc clash

-- where a number stands in a list
pub found : (w : List ℕ) (j : ℕ) → 0 < number (λ k. k == j) w → (p : ℕ) × (slice_get w p ≡ Some j)
found [] j h = absurd (omega arith)
found (k ∷ w) j h = by_test (k == j) refl h (found w j)
  where
    by_test : (b : Bool) → (k == j) ≡ b → 0 < cond b 1 0 + number (λ k. k == j) w → (0 < number (λ k. k == j) w → (p : ℕ) × (slice_get w p ≡ Some j)) → (p : ℕ) × (slice_get (k ∷ w) p ≡ Some j)
    by_test true e h later = (0, ap (λ (n : ℕ). Some n) (eq_of k j e (cases_eq k j)))
    by_test false e h later = let (p, at) = later (omega arith) in (suc p, at)

pub record Stands (ws : Words) (j : ℕ) : Type 0 where
  pub before : Words
  pub word : List ℕ
  pub after : Words
  pub split : ws ≡ before ++ word ∷ after
  pub place : ℕ
  pub at : slice_get word place ≡ Some j

stands : (ws : Words) (j : ℕ) → 0 < number (λ k. k == j) (flat_map (λ w. w) ws) → Stands ws j
stands [] j h = absurd (omega arith)
stands (w ∷ ws) j h = by_place (below_or (number (λ k. k == j) w)) (stands ws j)
  where
    both : number (λ k. k == j) (w ++ flat_map (λ w. w) ws) ≡ number (λ k. k == j) w + number (λ k. k == j) (flat_map (λ w. w) ws)
    both = number_append (λ k. k == j) w (flat_map (λ w. w) ws)

    below_or : (n : ℕ) → (0 < n) ⊎ (n ≡ 0)
    below_or zero = inr refl
    below_or (suc n) = inl (omega arith)

    by_place : (0 < number (λ k. k == j) w) ⊎ (number (λ k. k == j) w ≡ 0) → (0 < number (λ k. k == j) (flat_map (λ w. w) ws) → Stands ws j) → Stands (w ∷ ws) j
    by_place (inl k) later = let (p, at) = found w j k in record { before = []; word = w; after = ws; split = refl; place = p; at = at }
    by_place (inr k) later =
        let s = later (let e = both in omega arith) in
        record { before = w ∷ s.before; word = s.word; after = s.after; split = ap (λ (xs : Words). w ∷ xs) s.split; place = s.place; at = s.at }

-- what holds of a word that the latches show
word_is : (code : Code) (P : List ℕ → Bits → Type 0) (before after : Words) (w : List ℕ) (bits : Bits) (at : ℕ) → StateWordsAre code P (before ++ w ∷ after) bits at
    → P w (slice_range bits (at + latches_of_words code before) ((at + latches_of_words code before) + length w + code.columns))
word_is code P [] after w bits at h = subst (λ (k : ℕ). P w (slice_range bits k (k + length w + code.columns))) (let e : at ≡ at + 0 = omega arith in e) h.0
word_is code P (b ∷ before) after w bits at h =
    subst (λ (k : ℕ). P w (slice_range bits k (k + length w + code.columns)))
    (let s = sum_by-cons (λ w. length w + code.columns) b before in let e : at + length b + code.columns + latches_of_words code before ≡ at + latches_of_words code (b ∷ before) = omega arith in e)
    (word_is code P before after w bits (at + length b + code.columns) h.1)

first_part : (code : Code) (before after : Words) (w : List ℕ) → latches_of_words code before + (length w + code.columns) ≤ latches_of_words code (before ++ w ∷ after)
first_part code [] after w = let s = sum_by-cons (λ w. length w + code.columns) w after in omega arith
first_part code (b ∷ before) after w =
    let s = sum_by-cons (λ w. length w + code.columns) b before in
    let t = sum_by-cons (λ w. length w + code.columns) b (before ++ w ∷ after) in
    let r = first_part code before after w in
    omega arith

range_at : (v : ℕ → Bool) (a n i : ℕ) → i < n → get_or (map v (range_with_len a n)) i false ≡ v (a + i)
range_at v a zero i h = absurd (omega arith)
range_at v a (suc n) zero h = ap v (let e : a ≡ a + 0 = omega arith in e)
range_at v a (suc n) (suc i) h = range_at v (a + 1) n i (omega arith) ∙ ap v (let e : (a + 1) + i ≡ a + suc i = omega arith in e)

module _ (code : Code) (is_code : IsCode code) (words : Words) (inputs n k count : ℕ) (nets : List ℕ) (are : AreDataPlaces code words inputs n nets) (partition : IsPartition n k words) (many : count ≡ latches_of_words code words) (v : ℕ → Bool) (s : Bits) (long : length s ≡ n)
    (right : StateWordsAre code (IsNear code detect 0 s) words (map v (range_with_len inputs count)) 0) where
  bit_right : (j : ℕ) → j < n → get_or (map v nets) j false ≡ get_or s j false
  bit_right j h =
      let once : 0 < number (λ i. i == j) (flat_map (λ w. w) words) = let e = partition.each_once j h in let f = number_counts (λ i. i == j) (flat_map (λ w. w) words) in omega arith in
      let st = stands words j once in
      let net = are.each st.before st.after st.word st.place j st.split st.at in
      let inner : st.place < length st.word = inside st.word st.place j st.at in
      let fits = subst (λ (ws : Words). latches_of_words code st.before + (length st.word + code.columns) ≤ latches_of_words code ws) (sym st.split) (first_part code st.before st.after st.word) in
      let shown = word_is code (IsNear code detect 0 s) st.before st.after st.word (map v (range_with_len inputs count)) 0 (subst (λ (ws : Words). StateWordsAre code (IsNear code detect 0 s) ws (map v (range_with_len inputs count)) 0) st.split right) in
      let a : ℕ = latches_of_words code st.before in
      let size : length (map v (range_with_len inputs count)) ≡ count = length-map (range_with_len inputs count) v ∙ length-range_with_len inputs count in
      let moved : slice_range (map v (range_with_len inputs count)) (0 + a) ((0 + a) + length st.word + code.columns) ≡ slice_range (map v (range_with_len inputs count)) a (a + (length st.word + code.columns))
      = ap₂ (λ (x y : ℕ). slice_range (map v (range_with_len inputs count)) x y) (let e : 0 + a ≡ a = omega arith in e) (let e : (0 + a) + length st.word + code.columns ≡ a + (length st.word + code.columns) = omega arith in e) in
      let as_map = range_as_map (map v (range_with_len inputs count)) a (length st.word + code.columns) (omega arith) in
      let whole : map (λ q. get_or (map v (range_with_len inputs count)) q false) (range_with_len a (length st.word + code.columns)) ≡ encoded code (bits_at st.word s) = sym (moved ∙ as_map) ∙ shown in
      let here : get_or (map (λ q. get_or (map v (range_with_len inputs count)) q false) (range_with_len a (length st.word + code.columns))) st.place false ≡ get_or (map v (range_with_len inputs count)) (a + st.place) false = range_at (λ q. get_or (map v (range_with_len inputs count)) q false) a (length st.word + code.columns) st.place (omega arith) in
      let there : get_or (map v (range_with_len inputs count)) (a + st.place) false ≡ v (inputs + (a + st.place)) = range_at v inputs count (a + st.place) (omega arith) in
      let in_data : st.place < length (bits_at st.word s) = let e = length-map st.word (λ i. get_or s i false) in omega arith in
      let data_bit : get_or (encoded code (bits_at st.word s)) st.place false ≡ get_or s j false = to_or (encoded code (bits_at st.word s)) st.place (get_or s j false) (get_front (bits_at st.word s) (checks_of code (bits_at st.word s)) st.place in_data ∙ get_map (λ i. get_or s i false) st.word st.place j st.at) in
      get_of_map v nets j (inputs + (a + st.place)) net
      ∙ sym there ∙ sym here ∙ ap (λ (bs : Bits). get_or bs st.place false) whole ∙ data_bit

  pub data_bits : map v nets ≡ s
  data_bits = ext_get_or false (map v nets) s (length-map nets v ∙ are.count ∙ sym long) (λ j h. bit_right j (let e = length-map nets v in let f = are.count in omega arith))

input_below : (a n k : ℕ) → Contains (range_with_len a n) k → k < a + n
input_below a zero k c = absurd (let h = c.1 in omega arith)
input_below a (suc n) k c = by_part (input_below (a + 1) n k) (contains_cases a k (range_with_len (a + 1) n) c)
  where
    by_part : (Contains (range_with_len (a + 1) n) k → k < (a + 1) + n) → (a ≡ k) ⊎ Contains (range_with_len (a + 1) n) k → k < a + suc n
    by_part later (inl e) = omega arith
    by_part later (inr d) = let h = later d in omega arith

-- a place of a word is a data net
data_net : (code : Code) (before after : Words) (w : List ℕ) (first p : ℕ) → p < length w → IsDataNet code first (before ++ w ∷ after) (first + (latches_of_words code before + p))
data_net code [] after w first p h = inl (omega arith, omega arith)
data_net code (b ∷ before) after w first p h =
    let s = sum_by-cons (λ w. length w + code.columns) b before in
    inr (subst (λ (k : ℕ). IsDataNet code (first + length b + code.columns) (before ++ w ∷ after) k)
    (let e : (first + length b + code.columns) + (latches_of_words code before + p) ≡ first + (latches_of_words code (b ∷ before) + p) = omega arith in e)
    (data_net code before after w (first + length b + code.columns) p h))

module _ (code : Code) (words : Words) (inputs n k : ℕ) (nets : List ℕ) (are : AreDataPlaces code words inputs n nets) (partition : IsPartition n k words) where
  data_place : (j net : ℕ) → slice_get nets j ≡ Some net → IsDataNet code inputs words net
  data_place j net at =
      let h : j < n = let a = inside nets j net at in let c = are.count in omega arith in
      let once : 0 < number (λ i. i == j) (flat_map (λ w. w) words) = let e = partition.each_once j h in let f = number_counts (λ i. i == j) (flat_map (λ w. w) words) in omega arith in
      let st = stands words j once in
      let there = are.each st.before st.after st.word st.place j st.split st.at in
      let same : inputs + (latches_of_words code st.before + st.place) ≡ net = same_Some _ net (sym there ∙ at) in
      subst (λ (ws : Words). IsDataNet code inputs ws net) (sym st.split)
      (subst (λ (q : ℕ). IsDataNet code inputs (st.before ++ st.word ∷ st.after) q) same
      (data_net code st.before st.after st.word inputs st.place (inside st.word st.place j st.at)))

  pub leaf_is_data : (m : ℕ) → Contains (range_with_len 0 inputs ++ nets) m → (m < inputs) ⊎ IsDataNet code inputs words m
  leaf_is_data m c = by_part (Contains-append_cases (range_with_len 0 inputs) nets m c)
    where
      by_part : Contains (range_with_len 0 inputs) m ⊎ Contains nets m → (m < inputs) ⊎ IsDataNet code inputs words m
      by_part (inl d) = inl (let h = input_below 0 inputs m d in omega arith)
      by_part (inr d) = let (j, at) = at_contains nets m d in inr (data_place j m at)

-- so inputs and data places stand for the leaves of the source
module _ (g : Guarded) (source : Machine) (code : Code) (l : Layout) (k : ℕ) (nets : List ℕ) (is_code : IsCode code) (leaves : g.machine.net.leaves ≡ g.machine.inputs + length g.machine.latches) (partition : IsPartition (length source.latches) k l.state)
    (many : length g.machine.latches ≡ latches_of_words code l.state) (are : AreDataPlaces code l.state g.machine.inputs (length source.latches) nets) (within : (n : ℕ) → Contains (range_with_len 0 g.machine.inputs ++ nets) n → n < g.machine.net.leaves) where
  pub stand_for_leaves : StandForLeaves g source code l (range_with_len 0 g.machine.inputs ++ nets)
  stand_for_leaves = record {
    within = within;
    data_nets = leaf_is_data code l.state g.machine.inputs (length source.latches) k nets are partition;
    bits = λ v s long right. maps_append v (range_with_len 0 g.machine.inputs) nets
        ∙ ap (λ (bs : Bits). map v (range_with_len 0 g.machine.inputs) ++ bs) (data_bits code is_code l.state g.machine.inputs (length source.latches) k (length g.machine.latches) nets are partition many v s long right);
  }
