-- The labels of a guard whose gates stand bit by bit stand in order, kind by kind.
use Rattle.std.proofs.Common.{◌≡◌, refl, sym, ◌∙◌, ap, ap₂, subst, ℕ, zero, suc, ◌+◌, Bool, true, false, not, cond, List, [], ◌∷◌, ◌++◌, length, map, filter, append-nil, arith}
use Rattle.std.specs.Prelude.{IsTrue}
use Rattle.std.specs.List.{AllByRecursion, flat_map, enumerate_from, range_with_len}
use Rattle.std.proofs.lemmas.Grind.{flat_map-append}
use Rattle.std.proofs.lemmas.List.Elements.{filter-append}
use Rattle.std.proofs.lemmas.List.FromFn.{length-map-range_with_len}
use Rattle.netlist_spec.specs.Netlist.{Name, are_distinct, is_reserved}
use Rattle.netlist_spec.specs.Elaborated.{Elaborated, HasElaboratedForm}
use Rattle.guard_spec.specs.Codes.{Code}
use Rattle.guard_spec.specs.Words.{Words, Layout}
use Rattle.netlist_spec.specs.Written.{Label, given, store, next, check, rail, inner, label_name, given_name}
use Rattle.size_laws.specs.Labels.{is_store, is_next, is_check, is_rail, is_inner, word_labels, AreGuardLabels, HasFewPlaces}
use Rattle.size_laws.specs.BitOrder.{labels_from, IsLabelledByBits}
use Rattle.size_laws.specs.TakenOver.{names_from}
use Rattle.size_laws.proofs.LabelKinds.{guard_names_distinct}
use Rattle.size_laws.proofs.TakenOver.{taken_over_distinct, taken_over_free}

-- ---- what a test keeps

abbrev Kept : (Label → Bool) → Bool → List Label → Type 0
Kept t b xs = AllByRecursion (λ x. t x ≡ b) xs

keeps_all : (t : Label → Bool) (xs : List Label) → Kept t true xs → filter t xs ≡ xs
keeps_all t [] h = refl
keeps_all t (x ∷ xs) h = ap (λ b. cond b (x ∷ filter t xs) (filter t xs)) h.0 ∙ ap (λ ys. x ∷ ys) (keeps_all t xs h.1)

keeps_none : (t : Label → Bool) (xs : List Label) → Kept t false xs → filter t xs ≡ []
keeps_none t [] h = refl
keeps_none t (x ∷ xs) h = ap (λ b. cond b (x ∷ filter t xs) (filter t xs)) h.0 ∙ keeps_none t xs h.1

kept_append : (t : Label → Bool) (b : Bool) (xs ys : List Label) → Kept t b xs → Kept t b ys → Kept t b (xs ++ ys)
kept_append t b [] ys h k = k
kept_append t b (x ∷ xs) ys h k = (h.0, kept_append t b xs ys h.1 k)

kept_row : (t : Label → Bool) (b : Bool) (label : ℕ → Label) → ((i : ℕ) → t (label i) ≡ b) → (a n : ℕ) → Kept t b (map label (range_with_len a n))
kept_row t b label f a zero = tt
kept_row t b label f a (suc n) = (f a, kept_row t b label f (a + 1) n)

kept_rows : (t : Label → Bool) (b : Bool) (label : ℕ → ℕ → Label) (places : List ℕ → ℕ) → ((w i : ℕ) → t (label w i) ≡ b) → (w : ℕ) (words : Words) → Kept t b (flat_map (λ (word : ℕ × List ℕ). map (label word.0) (range_with_len 0 (places word.1))) (enumerate_from w words))
kept_rows t b label places f w [] = tt
kept_rows t b label places f w (word ∷ words) = kept_append t b (map (label w) (range_with_len 0 (places word))) _ (kept_row t b (label w) (f w) 0 (places word)) (kept_rows t b label places f (w + 1) words)

kept_names : (t : Label → Bool) → ((n : Name) → t (given n) ≡ false) → (ns : List Name) → Kept t false (map (λ n. given n) ns)
kept_names t f [] = tt
kept_names t f (n ∷ ns) = (f n, kept_names t f ns)

-- a test that no inner label passes sees the bits' own labels alone
own_kept : (t : Label → Bool) → ((i : ℕ) → t (inner i) ≡ false) → (a : ℕ) (bits : List (ℕ × Label)) → filter t (labels_from a bits) ≡ filter t (map (λ bit. bit.1) bits)
own_kept t f a [] = refl
own_kept t f a (bit ∷ bits) =
    filter-append t (map inner (range_with_len a bit.0)) (bit.1 ∷ labels_from (a + bit.0) bits)
    ∙ (ap (λ xs. xs ++ filter t (bit.1 ∷ labels_from (a + bit.0) bits)) (keeps_none t (map inner (range_with_len a bit.0)) (kept_row t false inner f a bit.0))
    ∙ ap (λ xs. cond (t bit.1) (bit.1 ∷ xs) xs) (own_kept t f (a + bit.0) bits))

row_append : (a n k : ℕ) → map inner (range_with_len a n) ++ map inner (range_with_len (a + n) k) ≡ map inner (range_with_len a (n + k))
row_append a zero k = ap (λ j. map inner (range_with_len j k)) (let z : a + 0 ≡ a = omega arith in z) ∙ ap (λ j. map inner (range_with_len a j)) (let z : k ≡ 0 + k = omega arith in z)
row_append a (suc n) k =
    ap (λ j. inner a ∷ (map inner (range_with_len (a + 1) n) ++ map inner (range_with_len j k))) (let z : a + suc n ≡ a + 1 + n = omega arith in z)
    ∙ (ap (λ xs. inner a ∷ xs) (row_append (a + 1) n k)
    ∙ ap (λ j. map inner (range_with_len a j)) (let z : suc (n + k) ≡ suc n + k = omega arith in z))

inner_kept : (a : ℕ) (bits : List (ℕ × Label)) → Kept is_inner false (map (λ bit. bit.1) bits) → (n : ℕ) × (filter is_inner (labels_from a bits) ≡ map inner (range_with_len a n))
inner_kept a [] h = (0, refl)
inner_kept a (bit ∷ bits) h =
    let (n, e) = inner_kept (a + bit.0) bits h.1 in (
      bit.0 + n,
      filter-append is_inner (map inner (range_with_len a bit.0)) (bit.1 ∷ labels_from (a + bit.0) bits)
          ∙ (ap₂ (λ xs ys. xs ++ ys) (keeps_all is_inner (map inner (range_with_len a bit.0)) (kept_row is_inner true inner (λ i. refl) a bit.0)) (ap (λ b. cond b (bit.1 ∷ filter is_inner (labels_from (a + bit.0) bits)) (filter is_inner (labels_from (a + bit.0) bits))) h.0 ∙ e)
          ∙ row_append a bit.0 n),
    )

-- ---- names

names_of_names : (ns : List Name) → flat_map given_name (map (λ n. given n) ns) ≡ ns
names_of_names [] = refl
names_of_names (n ∷ ns) = ap (λ xs. n ∷ xs) (names_of_names ns)

no_names_row : (label : ℕ → Label) → ((i : ℕ) → given_name (label i) ≡ []) → (a n : ℕ) → flat_map given_name (map label (range_with_len a n)) ≡ []
no_names_row label f a zero = refl
no_names_row label f a (suc n) = ap (λ xs. xs ++ flat_map given_name (map label (range_with_len (a + 1) n))) (f a) ∙ no_names_row label f (a + 1) n

no_names_rows : (label : ℕ → ℕ → Label) (places : List ℕ → ℕ) → ((w i : ℕ) → given_name (label w i) ≡ []) → (w : ℕ) (words : Words) → flat_map given_name (flat_map (λ (word : ℕ × List ℕ). map (label word.0) (range_with_len 0 (places word.1))) (enumerate_from w words)) ≡ []
no_names_rows label places f w [] = refl
no_names_rows label places f w (word ∷ words) =
    flat_map-append given_name (map (label w) (range_with_len 0 (places word))) (flat_map (λ (word : ℕ × List ℕ). map (label word.0) (range_with_len 0 (places word.1))) (enumerate_from (w + 1) words))
    ∙ ap₂ (λ xs ys. xs ++ ys) (no_names_row (label w) (f w) 0 (places word)) (no_names_rows label places f (w + 1) words)

names_of_bits : (a : ℕ) (bits : List (ℕ × Label)) → flat_map given_name (labels_from a bits) ≡ flat_map given_name (map (λ bit. bit.1) bits)
names_of_bits a [] = refl
names_of_bits a (bit ∷ bits) =
    flat_map-append given_name (map inner (range_with_len a bit.0)) (bit.1 ∷ labels_from (a + bit.0) bits)
    ∙ ap₂ (λ xs ys. xs ++ (given_name bit.1 ++ ys)) (no_names_row inner (λ i. refl) a bit.0) (names_of_bits (a + bit.0) bits)

-- ---- the labels of a guard

module _ (code : Code) (l : Layout) (rails : ℕ) (inputs outputs : List Name) (bits : List (ℕ × Label)) (labels : List Label) (is : IsLabelledByBits code l rails inputs outputs bits labels) where
  abbrev places : List ℕ → ℕ
  places w = length w + code.columns

  abbrev columns : List ℕ → ℕ
  columns w = code.columns

  abbrev given_inputs : List Label
  given_inputs = map (λ n. given n) inputs

  abbrev given_outputs : List Label
  given_outputs = map (λ n. given n) outputs

  abbrev stores : List Label
  stores = word_labels store (λ w. length w + code.columns) l.state

  abbrev nexts : List Label
  nexts = word_labels next (λ w. length w + code.columns) l.state

  abbrev checks : List Label
  checks = word_labels check (λ w. code.columns) l.output

  abbrev all_rails : List Label
  all_rails = map rail (range_with_len 0 rails)

  -- what a test keeps of all labels, from what it keeps of each part
  parts : (t : Label → Bool) → ((i : ℕ) → t (inner i) ≡ false) → filter t labels ≡ (filter t given_inputs ++ filter t stores) ++ (((filter t nexts ++ filter t given_outputs) ++ filter t checks) ++ filter t all_rails)
  parts t f =
      ap (filter t) is.all
      ∙ (filter-append t (given_inputs ++ stores) (labels_from 0 bits)
      ∙ ap₂ (λ xs ys. xs ++ ys) (filter-append t given_inputs stores)
      (own_kept t f 0 bits
      ∙ (ap (filter t) is.own
      ∙ (filter-append t ((nexts ++ given_outputs) ++ checks) all_rails
      ∙ ap (λ xs. xs ++ filter t all_rails) (filter-append t (nexts ++ given_outputs) checks ∙ ap (λ xs. xs ++ filter t checks) (filter-append t nexts given_outputs))))))

  none_of_inputs : (t : Label → Bool) → ((n : Name) → t (given n) ≡ false) → filter t given_inputs ≡ []
  none_of_inputs t f = keeps_none t given_inputs (kept_names t f inputs)

  none_of_outputs : (t : Label → Bool) → ((n : Name) → t (given n) ≡ false) → filter t given_outputs ≡ []
  none_of_outputs t f = keeps_none t given_outputs (kept_names t f outputs)

  join : (a b c d e f a' b' c' d' e' f' : List Label) → a ≡ a' → b ≡ b' → c ≡ c' → d ≡ d' → e ≡ e' → f ≡ f' → (a ++ b) ++ (((c ++ d) ++ e) ++ f) ≡ (a' ++ b') ++ (((c' ++ d') ++ e') ++ f')
  join a b c d e f a' b' c' d' e' f' p q r s u v =
      ap₂ (λ xs ys. xs ++ ys) (ap₂ (λ xs ys. xs ++ ys) p q) (ap₂ (λ xs ys. xs ++ ys) (ap₂ (λ xs ys. xs ++ ys) (ap₂ (λ xs ys. xs ++ ys) r s) u) v)

  stores_kept : filter is_store labels ≡ stores
  stores_kept =
      parts is_store (λ i. refl)
      ∙ (join _ _ _ _ _ _ [] stores [] [] [] []
      (none_of_inputs is_store (λ n. refl)) (keeps_all is_store stores (kept_rows is_store true store places (λ w i. refl) 0 l.state)) (keeps_none is_store nexts (kept_rows is_store false next places (λ w i. refl) 0 l.state))
      (none_of_outputs is_store (λ n. refl)) (keeps_none is_store checks (kept_rows is_store false check columns (λ w i. refl) 0 l.output)) (keeps_none is_store all_rails (kept_row is_store false rail (λ i. refl) 0 rails))
      ∙ append-nil stores)

  nexts_kept : filter is_next labels ≡ nexts
  nexts_kept =
      parts is_next (λ i. refl)
      ∙ (join _ _ _ _ _ _ [] [] nexts [] [] []
      (none_of_inputs is_next (λ n. refl)) (keeps_none is_next stores (kept_rows is_next false store places (λ w i. refl) 0 l.state)) (keeps_all is_next nexts (kept_rows is_next true next places (λ w i. refl) 0 l.state))
      (none_of_outputs is_next (λ n. refl)) (keeps_none is_next checks (kept_rows is_next false check columns (λ w i. refl) 0 l.output)) (keeps_none is_next all_rails (kept_row is_next false rail (λ i. refl) 0 rails))
      ∙ (append-nil ((nexts ++ []) ++ []) ∙ (append-nil (nexts ++ []) ∙ append-nil nexts)))

  checks_kept : filter is_check labels ≡ checks
  checks_kept =
      parts is_check (λ i. refl)
      ∙ (join _ _ _ _ _ _ [] [] [] [] checks []
      (none_of_inputs is_check (λ n. refl)) (keeps_none is_check stores (kept_rows is_check false store places (λ w i. refl) 0 l.state)) (keeps_none is_check nexts (kept_rows is_check false next places (λ w i. refl) 0 l.state))
      (none_of_outputs is_check (λ n. refl)) (keeps_all is_check checks (kept_rows is_check true check columns (λ w i. refl) 0 l.output)) (keeps_none is_check all_rails (kept_row is_check false rail (λ i. refl) 0 rails))
      ∙ append-nil checks)

  rails_kept : filter is_rail labels ≡ all_rails
  rails_kept =
      parts is_rail (λ i. refl)
      ∙ join _ _ _ _ _ _ [] [] [] [] [] all_rails
      (none_of_inputs is_rail (λ n. refl)) (keeps_none is_rail stores (kept_rows is_rail false store places (λ w i. refl) 0 l.state)) (keeps_none is_rail nexts (kept_rows is_rail false next places (λ w i. refl) 0 l.state))
      (none_of_outputs is_rail (λ n. refl)) (keeps_none is_rail checks (kept_rows is_rail false check columns (λ w i. refl) 0 l.output)) (keeps_all is_rail all_rails (kept_row is_rail true rail (λ i. refl) 0 rails))

  own_not_inner : Kept is_inner false (map (λ bit. bit.1) bits)
  own_not_inner =
      subst (λ (xs : List Label). Kept is_inner false xs) (sym is.own)
      (kept_append is_inner false ((nexts ++ given_outputs) ++ checks) all_rails
      (kept_append is_inner false (nexts ++ given_outputs) checks
      (kept_append is_inner false nexts given_outputs (kept_rows is_inner false next places (λ w i. refl) 0 l.state) (kept_names is_inner (λ n. refl) outputs))
      (kept_rows is_inner false check columns (λ w i. refl) 0 l.output))
      (kept_row is_inner false rail (λ i. refl) 0 rails))

  inner_in_order : filter is_inner labels ≡ map inner (range_with_len 0 (length (filter is_inner labels)))
  inner_in_order =
      let (n, e) = inner_kept 0 bits own_not_inner in
      let all : filter is_inner labels ≡ map inner (range_with_len 0 n)
      = ap (filter is_inner) is.all
      ∙ (filter-append is_inner (given_inputs ++ stores) (labels_from 0 bits)
      ∙ ap₂ (λ xs ys. xs ++ ys) (keeps_none is_inner (given_inputs ++ stores) (kept_append is_inner false given_inputs stores (kept_names is_inner (λ n. refl) inputs) (kept_rows is_inner false store places (λ w i. refl) 0 l.state))) e) in
      let count : length (filter is_inner labels) ≡ n = ap (λ (xs : List Label). length xs) all ∙ length-map-range_with_len inner 0 n in
      all ∙ ap (λ k. map inner (range_with_len 0 k)) (sym count)

  names : flat_map given_name labels ≡ inputs ++ outputs
  names =
      ap (flat_map given_name) is.all
      ∙ (flat_map-append given_name (given_inputs ++ stores) (labels_from 0 bits)
      ∙ ap₂ (λ xs ys. xs ++ ys)
      (flat_map-append given_name given_inputs stores ∙ (ap₂ (λ xs ys. xs ++ ys) (names_of_names inputs) (no_names_rows store places (λ w i. refl) 0 l.state) ∙ append-nil inputs))
      (names_of_bits 0 bits
      ∙ (ap (flat_map given_name) is.own
      ∙ (flat_map-append given_name ((nexts ++ given_outputs) ++ checks) all_rails
      ∙ (ap₂ (λ xs ys. xs ++ ys)
      (flat_map-append given_name (nexts ++ given_outputs) checks
      ∙ (ap₂ (λ xs ys. xs ++ ys) (flat_map-append given_name nexts given_outputs ∙ ap₂ (λ xs ys. xs ++ ys) (no_names_rows next places (λ w i. refl) 0 l.state) (names_of_names outputs)) (no_names_rows check columns (λ w i. refl) 0 l.output) ∙ append-nil outputs))
      (no_names_row rail (λ i. refl) 0 rails)
      ∙ append-nil outputs)))))

  pub labelled_in_order : IsTrue (are_distinct (inputs ++ outputs)) → AreGuardLabels code l rails labels
  labelled_in_order distinct = record {
    given = subst (λ (ns : List Name). IsTrue (are_distinct ns)) (sym names) distinct;
    stores = stores_kept;
    nexts = nexts_kept;
    checks = checks_kept;
    rail_labels = rails_kept;
    inner = inner_in_order;
  }

  pub labelled_names : flat_map given_name labels ≡ inputs ++ outputs
  labelled_names = names

-- the same for an elaborated source
pub source_names_distinct : (e : Elaborated) (code : Code) (l : Layout) (rails : ℕ) (bits : List (ℕ × Label)) (labels : List Label) → HasElaboratedForm e → HasFewPlaces code l rails labels
    → IsLabelledByBits code l rails e.data_names (names_from e.machine.inputs e.output_names e.machine.outputs) bits labels → IsTrue (are_distinct (map label_name labels))
source_names_distinct e code l rails bits labels form few is =
    guard_names_distinct code l rails labels (labelled_in_order code l rails e.data_names (names_from e.machine.inputs e.output_names e.machine.outputs) bits labels is (taken_over_distinct e form)) few
    (subst (λ (ns : List Name). AllByRecursion (λ n. IsTrue (not (is_reserved n))) ns) (sym (labelled_names code l rails e.data_names (names_from e.machine.inputs e.output_names e.machine.outputs) bits labels is)) (taken_over_free e form))
