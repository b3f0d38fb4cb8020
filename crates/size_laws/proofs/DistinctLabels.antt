-- Labels with one name are one label.
use Rattle.std.proofs.Common.{◌≡◌, ◌≢◌, refl, sym, ◌∙◌, ap, ap₂, subst, ℕ, suc, ◌<◌, ◌^◌, Bool, true, false, not, ◌&&◌, ◌||◌, cond, List, [], ◌∷◌, ◌++◌, length, map, get_or, codes, append_assoc, arith}
use Rattle.std.specs.Prelude.{IsTrue, decimal}
use Rattle.std.specs.Char.{digit_value}
use Rattle.std.specs.Str.Parse.{AllDigits}
use Rattle.std.specs.List.{AllByRecursion}
use Rattle.std.specs.Cmp.Lexicographic.{bytes_decides}
use Rattle.std.proofs.lemmas.Fmt.{decimal_injective, decimal_is_IsNumeral}
use Rattle.netlist_spec.specs.Netlist.{Name, same_name, stands_in, are_distinct}
use Rattle.netlist_spec.specs.Written.{Label, given, store, next, check, rail, inner, label_name}
use Rattle.size_laws.specs.Labels.{is_added, IsFreeLabel, AreFreeLabels, HasNoRepeat}

-- ---- numbers with a colon between them

abbrev HasNoColon : List ℕ → Type 0
HasNoColon ds = AllByRecursion (λ b. b ≢ 58) ds

no_colon : (ds : List ℕ) → AllDigits 10 ds → HasNoColon ds
no_colon [] h = tt
no_colon (d ∷ ds) h = ((λ e. let small : digit_value 58 < 10 = subst (λ (b : ℕ). digit_value b < 10) e h.0 in omega arith), no_colon ds h.1)

decimal_no_colon : (n : ℕ) → n < 2 ^ 64 → HasNoColon (decimal n)
decimal_no_colon n h = no_colon (decimal n) (decimal_is_IsNumeral n h).0.1

-- the first colon cuts two equal lists at one place
cut : (xs us ys vs : List ℕ) → HasNoColon xs → HasNoColon us → xs ++ (58 ∷ ys) ≡ us ++ (58 ∷ vs) → (xs ≡ us) × (ys ≡ vs)
cut [] [] ys vs a b e = (refl, cc e)
cut [] (u ∷ us) ys vs a b e = absurd (b.0 (cc e))
cut (x ∷ xs) [] ys vs a b e = absurd (a.0 (cc e))
cut (x ∷ xs) (u ∷ us) ys vs a b e =
    let rest : xs ++ (58 ∷ ys) ≡ us ++ (58 ∷ vs) = cc e in
    let parts = cut xs us ys vs a.1 b.1 rest in
    (ap₂ (λ z zs. z ∷ zs) (cc e) parts.0, parts.1)

two_numbers : (w i v j : ℕ) → w < 2 ^ 64 → i < 2 ^ 64 → v < 2 ^ 64 → j < 2 ^ 64 → (between : List ℕ) → ((xs ys : List ℕ) → between ++ xs ≡ between ++ ys → xs ≡ ys)
    → decimal w ++ (58 ∷ (between ++ decimal i)) ≡ decimal v ++ (58 ∷ (between ++ decimal j)) → (w ≡ v) × (i ≡ j)
two_numbers w i v j hw hi hv hj between same e =
    let parts = cut (decimal w) (decimal v) (between ++ decimal i) (between ++ decimal j) (decimal_no_colon w hw) (decimal_no_colon v hv) e in
    (decimal_injective w v hw hv parts.0, decimal_injective i j hi hj (same (decimal i) (decimal j) parts.1))

-- ---- kinds of labels

-- the letter that follows `guard:` in the name of a label
abbrev kind : Label → ℕ
kind (given n) = 0
kind (store w i) = 115
kind (next w i) = 100
kind (check w j) = 111
kind (rail i) = 97
kind (inner i) = 110

abbrev letter_of : Name → ℕ
letter_of n = cond (is_added n) (get_or n 6 0) 0

not_added : (n : Name) (b : Bool) → is_added n ≡ b → IsTrue (not b) → letter_of n ≡ 0
not_added n true e h = let clash : false ≡ true = h in cc clash
not_added n false e h = ap (λ b. cond b (get_or n 6 0) 0) e

kind_is : (a : Label) → IsFreeLabel a → letter_of (label_name a) ≡ kind a
kind_is (given n) h = not_added n (is_added n) refl h
kind_is (store w i) h = refl
kind_is (next w i) h = refl
kind_is (check w j) h = refl
kind_is (rail i) h = refl
kind_is (inner i) h = refl

one_kind : (a b : Label) → IsFreeLabel a → IsFreeLabel b → label_name a ≡ label_name b → kind a ≡ kind b
one_kind a b h g e = sym (kind_is a h) ∙ (ap letter_of e ∙ kind_is b g)

pub same_label : (a b : Label) → IsFreeLabel a → IsFreeLabel b → label_name a ≡ label_name b → a ≡ b
same_label (given n) (given k) h g e = ap given e
same_label (store w i) (store v j) h g e =
    let same = two_numbers w i v j h.0 h.1 g.0 g.1 [] (λ xs ys f. f) (cc e) in ap₂ store same.0 same.1
same_label (next w i) (next v j) h g e =
    let same = two_numbers w i v j h.0 h.1 g.0 g.1 [] (λ xs ys f. f) (cc e) in ap₂ next same.0 same.1
same_label (check w i) (check v j) h g e =
    let f = sym (append_assoc (codes "guard:o" ++ decimal w) (codes ":c") (decimal i)) ∙ (e ∙ append_assoc (codes "guard:o" ++ decimal v) (codes ":c") (decimal j)) in
    let same = two_numbers w i v j h.0 h.1 g.0 g.1 (99 ∷ []) (λ xs ys f. cc f) (cc f) in ap₂ check same.0 same.1
same_label (rail i) (rail j) h g e = ap rail (decimal_injective i j h g (cc e))
same_label (inner i) (inner j) h g e = ap inner (decimal_injective i j h g (cc e))
same_label a b h g e = absurd (let clash = one_kind a b h g e in omega arith)

-- ---- lists of labels

first_apart : (a : Label) (labels : List Label) → IsFreeLabel a → AreFreeLabels labels → ((k : ℕ) (d : Label) → k < length labels → a ≢ get_or labels k d) → stands_in (label_name a) (map label_name labels) ≡ false
first_apart a [] h free other = refl
first_apart a (b ∷ labels) h free other =
    by_test (same_name (label_name a) (label_name b)) refl (first_apart a labels h free.1 (λ k d inside. other (suc k) d (omega arith)))
  where
    by_test : (t : Bool) → same_name (label_name a) (label_name b) ≡ t → stands_in (label_name a) (map label_name labels) ≡ false → (t || stands_in (label_name a) (map label_name labels)) ≡ false
    by_test true e rest = absurd (other 0 b (omega arith) (same_label a b h free.0 ((bytes_decides (label_name a) (label_name b)).0 e)))
    by_test false e rest = rest

pub distinct_names : (labels : List Label) → AreFreeLabels labels → HasNoRepeat labels → IsTrue (are_distinct (map label_name labels))
distinct_names [] free pairs = refl
distinct_names (a ∷ labels) free pairs =
    ap₂ (λ (x y : Bool). not x && y) (first_apart a labels free.0 free.1 (λ k d inside. pairs 0 (suc k) d (omega arith) (omega arith))) (distinct_names labels free.1 (λ i j d less inside. pairs (suc i) (suc j) d (omega arith) (omega arith)))
