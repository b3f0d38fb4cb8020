-- What one more label, or one more word of labels, makes of a list.
use Rattle.std.proofs.Common.{◌≡◌, refl, sym, ◌∙◌, ap, subst, ℕ, suc, ◌+◌, ◌-◌, ◌≤◌, ◌<◌, List, [], ◌∷◌, ◌++◌, map, length, drop, get_or, Vec, Global, arith, append_assoc, append-nil, length-append}
use Rattle.std.specs.Prelude.{if◌then◌else◌}
use Rattle.std.specs.List.{flat_map, range_with_len}
use Rattle.std.proofs.Math.ListN.{drop_of_length-le}
use Rattle.std.proofs.Math.Seq.{drop-cons}
use Rattle.std.proofs.lemmas.Bool.{lt-ltb, le-ltb}
use Rattle.std.proofs.lemmas.Grind.{flat_map-append}
use Rattle.std.proofs.lemmas.List.{map-append}
use Rattle.std.proofs.lemmas.List.FromFn.{map-range_with_len_more, length-map-range_with_len}
use Rattle.netlist_spec.specs.Gates.{LatchRow}
use Rattle.gate_net.specs.declared.gate.NetId.{NetId}
use Rattle.gate_net.specs.declared.machine.LatchRow.{LatchRow as Latch}
use Rattle.gate_net.specs.Gate.{net_number}
use Rattle.gate_net.specs.Machine.{latch_row}
use Rattle.guard_laws.proofs.Lists.{range_join}
use Rattle.encode_state.specs.Types.{words_in}
use Rattle.named_netlist.specs.declared.label.Label.{Label}
use Rattle.named_netlist.specs.declared.label.Label.TheVariants.{Inner, Check}
use Rattle.guard_names.specs.declared.labels.Kind.{Kind}
use Rattle.guard_names.specs.Labels.{IsRising, beside_gates, between, kind_label, places_from, check_labels}

-- a row of items from number a on, and the next one
pub one_more : {A : Type 0} (f : ℕ → A) (a : ℕ) (before labels more : List A) (n i : ℕ) → i ≡ a + n → labels ≡ before ++ map f (range_with_len a n) → more ≡ labels ++ f i ∷ [] → more ≡ before ++ map f (range_with_len a (n + 1))
one_more {A} f a before labels more n i at are pushed =
    let next : map f (range_with_len a (n + 1)) ≡ map f (range_with_len a n) ++ f i ∷ [] = map-range_with_len_more f a n i (sym at) in
    pushed ∙ ap (λ (l : List A). l ++ f i ∷ []) are ∙ append_assoc before (map f (range_with_len a n)) (f i ∷ []) ∙ ap (λ (l : List A). before ++ l) (sym next)

-- what comes next is pushed
pub moved : {A : Type 0} (whole labels pushed row rest left : List A) → whole ≡ labels ++ left → left ≡ row ++ rest → pushed ≡ labels ++ row → whole ≡ pushed ++ rest
moved {A} whole labels pushed row rest left are next is =
    are ∙ ap (λ (l : List A). labels ++ l) next ∙ sym (append_assoc labels row rest) ∙ ap (λ (l : List A). l ++ rest) (sym is)

pub dropped : {A : Type 0} (xs : List A) (i : ℕ) (x : A) → i < length xs → x ≡ get_or xs i x → drop i xs ≡ x ∷ drop (i + 1) xs
dropped {A} xs i x inside is = drop-cons xs i x inside ∙ ap (λ (y : A). y ∷ drop (suc i) xs) (sym is) ∙ ap (λ (k : ℕ). x ∷ drop k xs) (let e : suc i ≡ i + 1 = omega arith in e)

-- ---- words

pub next_word : (kind : Kind) (columns i : ℕ) (words : List (Vec ℕ Global)) (w : Vec ℕ Global) → i < length words → w ≡ get_or words i w
    → places_from kind columns i (words_in (drop i words)) ≡ map (kind_label kind i) (range_with_len 0 (length w.items + columns)) ++ places_from kind columns (i + 1) (words_in (drop (i + 1) words))
next_word kind columns i words w inside is = ap (λ (ws : List (Vec ℕ Global)). places_from kind columns i (words_in ws)) (dropped words i w inside is)

pub past_words : (kind : Kind) (columns i : ℕ) (words : List (Vec ℕ Global)) → length words ≤ i → places_from kind columns i (words_in (drop i words)) ≡ []
past_words kind columns i words past = ap (λ (ws : List (Vec ℕ Global)). places_from kind columns i (words_in ws)) (drop_of_length-le words past)

-- one more word of check labels
pub next_checks : (columns n : ℕ) (before labels more : List Label) → labels ≡ before ++ check_labels columns n → more ≡ labels ++ map (Check n) (range_with_len 0 columns) → more ≡ before ++ check_labels columns (n + 1)
next_checks columns n before labels more are pushed =
    let row : List Label = map (Check n) (range_with_len 0 columns) in
    let longer : check_labels columns (n + 1) ≡ check_labels columns n ++ row
    = ap (λ (ws : List ℕ). flat_map (λ (word : ℕ). map (Check word) (range_with_len 0 columns)) ws) (sym (range_join 0 n 1))
    ∙ flat_map-append (λ (word : ℕ). map (Check word) (range_with_len 0 columns)) (range_with_len 0 n) (range_with_len (0 + n) 1)
    ∙ ap (λ (ls : List Label). check_labels columns n ++ ls) (append-nil (map (Check (0 + n)) (range_with_len 0 columns)) ∙ ap (λ (k : ℕ). map (Check k) (range_with_len 0 columns)) (let e : 0 + n ≡ n = omega arith in e)) in
    pushed ∙ ap (λ (ls : List Label). ls ++ row) are ∙ append_assoc before (check_labels columns n) row ∙ ap (λ (ls : List Label). before ++ ls) (sym longer)

-- ---- beside the nets of gates

pub at_gate : {A : Type 0} (leaves n : ℕ) (x : A) (xs : List A) (ns : List ℕ) → leaves ≤ n → beside_gates leaves (x ∷ xs) (n ∷ ns) ≡ (x ∷ []) ++ beside_gates leaves xs ns
at_gate leaves n x xs ns high = ap (λ b. if b then beside_gates leaves xs ns else x ∷ beside_gates leaves xs ns) (le-ltb n leaves high)

pub at_leaf : {A : Type 0} (leaves n : ℕ) (x : A) (xs : List A) (ns : List ℕ) → n < leaves → beside_gates leaves (x ∷ xs) (n ∷ ns) ≡ beside_gates leaves xs ns
at_leaf leaves n x xs ns low = ap (λ b. if b then beside_gates leaves xs ns else x ∷ beside_gates leaves xs ns) (lt-ltb n leaves low)

pub past_gates : {A : Type 0} (leaves i : ℕ) (xs : List A) (ns : List ℕ) → length xs ≤ i → beside_gates leaves (drop i xs) ns ≡ []
past_gates {A} leaves i xs ns past = ap (λ (ys : List A). beside_gates leaves ys ns) (drop_of_length-le xs past)

-- what latches store, by number
pub stored_numbers : (latches : List Latch) → map net_number (map (λ (l : Latch). l.d) latches) ≡ map (λ (r : LatchRow). r.d) (map latch_row latches)
stored_numbers [] = refl
stored_numbers (l ∷ latches) = ap (λ (ns : List ℕ). net_number l.d ∷ ns) (stored_numbers latches)

-- ---- gates among outputs

abbrev net_at : List NetId → ℕ → NetId
net_at ns i = get_or ns i (record { 0 = 0 })

next_at : {A : Type 0} (xs : List A) (i : ℕ) (d : A) → i < length xs → drop i xs ≡ get_or xs i d ∷ drop (i + 1) xs
next_at {A} xs i d inside = drop-cons xs i d inside ∙ ap (λ (k : ℕ). get_or xs i d ∷ drop k xs) (let e : suc i ≡ i + 1 = omega arith in e)

both_at : {A : Type 0} (leaves i : ℕ) (xs : List A) (d : A) (ns : List NetId) → i < length xs → i < length ns
    → beside_gates leaves (drop i xs) (map net_number (drop i ns)) ≡ beside_gates leaves (get_or xs i d ∷ drop (i + 1) xs) (net_number (net_at ns i) ∷ map net_number (drop (i + 1) ns))
both_at {A} leaves i xs d ns a b =
    ap (λ (ys : List A). beside_gates leaves ys (map net_number (drop i ns))) (next_at xs i d a)
    ∙ ap (λ (ms : List NetId). beside_gates leaves (get_or xs i d ∷ drop (i + 1) xs) (map net_number ms)) (next_at ns i (record { 0 = 0 }) b)

pub gate_pushed : {A : Type 0} (leaves i : ℕ) (xs : List A) (d : A) (ns : List NetId) (whole before after : List A) → i < length xs → i < length ns → whole ≡ before ++ beside_gates leaves (drop i xs) (map net_number (drop i ns))
    → leaves ≤ net_number (get_or ns i (record { 0 = 0 })) → after ≡ before ++ get_or xs i d ∷ [] → whole ≡ after ++ beside_gates leaves (drop (i + 1) xs) (map net_number (drop (i + 1) ns))
gate_pushed {A} leaves i xs d ns whole before after a b are high pushed =
    moved whole before after (get_or xs i d ∷ []) (beside_gates leaves (drop (i + 1) xs) (map net_number (drop (i + 1) ns))) (beside_gates leaves (drop i xs) (map net_number (drop i ns))) are
    (both_at leaves i xs d ns a b ∙ at_gate leaves (net_number (net_at ns i)) (get_or xs i d) (drop (i + 1) xs) (map net_number (drop (i + 1) ns)) high) pushed

pub leaf_passed : {A : Type 0} (leaves i : ℕ) (xs : List A) (d : A) (ns : List NetId) (whole before after : List A) → i < length xs → i < length ns → whole ≡ before ++ beside_gates leaves (drop i xs) (map net_number (drop i ns))
    → net_number (get_or ns i (record { 0 = 0 })) < leaves → after ≡ before → whole ≡ after ++ beside_gates leaves (drop (i + 1) xs) (map net_number (drop (i + 1) ns))
leaf_passed {A} leaves i xs d ns whole before after a b are low same =
    are ∙ ap (λ (ys : List A). before ++ ys) (both_at leaves i xs d ns a b ∙ at_leaf leaves (net_number (net_at ns i)) (get_or xs i d) (drop (i + 1) xs) (map net_number (drop (i + 1) ns)) low)
    ∙ ap (λ (ys : List A). ys ++ beside_gates leaves (drop (i + 1) xs) (map net_number (drop (i + 1) ns))) (sym same)

numbers_at : (i : ℕ) (ns : List NetId) → i < length ns → map net_number (drop i ns) ≡ net_number (net_at ns i) ∷ map net_number (drop (i + 1) ns)
numbers_at i ns inside = ap (map net_number) (next_at ns i (record { 0 = 0 }) inside)

pub number_pushed : (leaves i : ℕ) (ns : List NetId) (whole : List ℕ) (nets more : List NetId) → i < length ns → whole ≡ map net_number nets ++ beside_gates leaves (map net_number (drop i ns)) (map net_number (drop i ns))
    → leaves ≤ net_number (get_or ns i (record { 0 = 0 })) → more ≡ nets ++ get_or ns i (record { 0 = 0 }) ∷ [] → whole ≡ map net_number more ++ beside_gates leaves (map net_number (drop (i + 1) ns)) (map net_number (drop (i + 1) ns))
number_pushed leaves i ns whole nets more inside are high pushed =
    let rest : List ℕ = map net_number (drop (i + 1) ns) in
    let n : ℕ = net_number (net_at ns i) in
    moved whole (map net_number nets) (map net_number more) (n ∷ []) (beside_gates leaves rest rest) (beside_gates leaves (map net_number (drop i ns)) (map net_number (drop i ns))) are
    (ap (λ (ms : List ℕ). beside_gates leaves ms ms) (numbers_at i ns inside) ∙ at_gate leaves n n rest rest high)
    (ap (map net_number) pushed ∙ map-append net_number nets (net_at ns i ∷ []))

pub number_passed : (leaves i : ℕ) (ns : List NetId) (whole : List ℕ) (nets more : List NetId) → i < length ns → whole ≡ map net_number nets ++ beside_gates leaves (map net_number (drop i ns)) (map net_number (drop i ns))
    → net_number (get_or ns i (record { 0 = 0 })) < leaves → more ≡ nets → whole ≡ map net_number more ++ beside_gates leaves (map net_number (drop (i + 1) ns)) (map net_number (drop (i + 1) ns))
number_passed leaves i ns whole nets more inside are low same =
    let rest : List ℕ = map net_number (drop (i + 1) ns) in
    let n : ℕ = net_number (net_at ns i) in
    are ∙ ap (λ (ms : List ℕ). map net_number nets ++ beside_gates leaves ms ms) (numbers_at i ns inside) ∙ ap (λ (ms : List ℕ). map net_number nets ++ ms) (at_leaf leaves n n rest rest low)
    ∙ ap (λ (ms : List NetId). map net_number ms ++ beside_gates leaves rest rest) (sym same)

-- ---- labels between the nets of own cells

module _ (i inner count : ℕ) (nets : List NetId) (own : List Label) (d : Label) (whole labels filled more : List Label) (a : i < length nets) (b : i < length own)
    (are : whole ≡ labels ++ between (λ k. Inner k) (length labels) inner (map net_number (drop i nets)) (drop i own)) (rising : IsRising (length labels) (map net_number (drop i nets))) (few : inner ≤ length labels)
    (counted : count ≡ net_number (get_or nets i (record { 0 = 0 })) - length labels) (inners : filled ≡ labels ++ map (λ k. Inner k) (range_with_len inner count)) (pushed : more ≡ filled ++ get_or own i d ∷ []) where
  abbrev here : ℕ
  here = net_number (net_at nets i)

  abbrev rest : List ℕ
  rest = map net_number (drop (i + 1) nets)

  rises : (length labels ≤ here) × IsRising (here + 1) rest
  rises = subst (λ (ns : List ℕ). IsRising (length labels) ns) (numbers_at i nets a) rising

  more_long : length more ≡ here + 1
  more_long =
      let one = ap (λ (ls : List Label). length ls) pushed ∙ length-append filled (get_or own i d ∷ []) in
      let two = ap (λ (ls : List Label). length ls) inners ∙ length-append labels (map (λ k. Inner k) (range_with_len inner count)) in
      let three : length (map (λ k. Inner k) (range_with_len inner count)) ≡ count = length-map-range_with_len (λ k. Inner k) inner count in
      let low = rises.0 in
      omega arith

  pub still_rising : IsRising (length more) rest
  still_rising = subst (λ (k : ℕ). IsRising k rest) (sym more_long) rises.1

  pub still_few : inner + count ≤ length more
  still_few = let long = more_long in let low = rises.0 in omega arith

  pub labels_moved : whole ≡ more ++ between (λ k. Inner k) (length more) (inner + count) rest (drop (i + 1) own)
  labels_moved =
      let row : List Label = map (λ k. Inner k) (range_with_len inner count) in
      let x : Label = get_or own i d in
      let left : List Label = between (λ k. Inner k) (here + 1) (inner + count) rest (drop (i + 1) own) in
      are
      ∙ ap (λ (ls : List Label). labels ++ ls)
      (ap (λ (ns : List ℕ). between (λ k. Inner k) (length labels) inner ns (drop i own)) (numbers_at i nets a)
      ∙ ap (λ (ls : List Label). between (λ k. Inner k) (length labels) inner (here ∷ rest) ls) (next_at own i d b)
      ∙ ap (λ (k : ℕ). map (λ j. Inner j) (range_with_len inner k) ++ x ∷ between (λ j. Inner j) (here + 1) (inner + k) rest (drop (i + 1) own)) (sym counted))
      ∙ sym (append_assoc labels row (x ∷ left))
      ∙ ap (λ (ls : List Label). ls ++ x ∷ left) (sym inners)
      ∙ sym (append_assoc filled (x ∷ []) left)
      ∙ ap (λ (ls : List Label). ls ++ left) (sym pushed)
      ∙ ap (λ (k : ℕ). more ++ between (λ j. Inner j) k (inner + count) rest (drop (i + 1) own)) (sym more_long)
