-- Names that are found among nets.
use Rattle.std.proofs.Common.{◌≡◌, refl, sym, ◌∙◌, ap, ℕ, zero, suc, ◌+◌, ◌<◌, List, [], ◌∷◌, ◌++◌, map, find, length, take, drop, Bool, true, false, not, cond, get_or, arith, Option, Some, None, option_map, ◌⊎◌, inl, inr}
use Rattle.std.specs.Option.{option_or}
use Rattle.std.specs.Prelude.{slice_get}
use Rattle.std.specs.List.{AllByRecursion, AllZip, flat_map}
use Rattle.std.proofs.lemmas.List.{map-append, take_more}
use Rattle.std.proofs.lemmas.List.Folds.{find-append}
use Rattle.netlist_spec.specs.Netlist.{Name, stands_in}
use Rattle.netlist_spec.proofs.OneValue.{none_both}
use Rattle.imp_text.proofs.NamesLemmas.{stands_in-at}
use Rattle.guard_spec.specs.Words.{Words, AreNamed, all_numbers}
use Rattle.encode_state.specs.Listed.{Numbers, first_unknown, nets_at, net_at}

pub either : (b : Bool) → (b ≡ true) ⊎ (b ≡ false)
either true = inl refl
either false = inr refl

-- ---- lists side by side

pub zip_push : {A B : Type 0} (R : A → B → Type 0) (xs : List A) (ys : List B) (x : A) (y : B) → AllZip R xs ys → R x y → AllZip R (xs ++ x ∷ []) (ys ++ y ∷ [])
zip_push R [] [] x y a r = (r, tt)
zip_push R [] (z ∷ ys) x y a r = absurd a
zip_push R (z ∷ xs) [] x y a r = absurd a
zip_push R (z ∷ xs) (w ∷ ys) x y a r = (a.0, zip_push R xs ys x y a.1 r)

pub zip_length : {A B : Type 0} (R : A → B → Type 0) (xs : List A) (ys : List B) → AllZip R xs ys → length xs ≡ length ys
zip_length R [] [] a = refl
zip_length R [] (y ∷ ys) a = absurd a
zip_length R (x ∷ xs) [] a = absurd a
zip_length R (x ∷ xs) (y ∷ ys) a = ap suc (zip_length R xs ys a.1)

-- ---- the first element that passes a test

not_passed : {A : Type 0} (b : Bool) (x : A) (o : Option A) → cond b (Some x) o ≡ None → (b ≡ false) × (o ≡ None)
not_passed true x o e = absurd (cc e)
not_passed false x o e = (refl, e)

-- none before the i-th one passes
pub find_at : {A : Type 0} (p : A → Bool) (xs : List A) (i : ℕ) (d : A) → i < length xs → find p (take i xs) ≡ None → p (get_or xs i d) ≡ true → find p xs ≡ Some (get_or xs i d)
find_at p [] i d h none here = absurd (omega arith)
find_at p (x ∷ xs) zero d h none here = rw here refl
find_at p (x ∷ xs) (suc i) d h none here =
    let parts = not_passed (p x) x (find p (take i xs)) none in
    rw parts.0 (find_at p xs i d (omega arith) parts.1 here)

first_of_two : {A : Type 0} (a b : Option A) (x : A) → a ≡ None → b ≡ Some x → option_or a b ≡ Some x
first_of_two None b x e f = f
first_of_two (Some y) b x e f = absurd (cc e)

first_is : {A : Type 0} (a b : Option A) (x : A) → a ≡ Some x → option_or a b ≡ Some x
first_is None b x e = absurd (cc e)
first_is (Some y) b x e = e

-- the same over lists of lists, of which one has an element that passes, and none before it has
pub find_within : {A : Type 0} (p : A → Bool) (xss : List (List A)) (i : ℕ) (d : List A) (a : A) → i < length xss
    → find p (flat_map (λ xs. xs) (take i xss)) ≡ None → find p (get_or xss i d) ≡ Some a → find p (flat_map (λ xs. xs) xss) ≡ Some a
find_within p [] i d a h none here = absurd (omega arith)
find_within p (xs ∷ xss) zero d a h none here = find-append p xs (flat_map (λ xs. xs) xss) ∙ first_is (find p xs) _ a here
find_within p (xs ∷ xss) (suc i) d a h none here =
    let parts = none_both (find p xs) (find p (flat_map (λ xs. xs) (take i xss))) (sym (find-append p xs (flat_map (λ xs. xs) (take i xss))) ∙ none) in
    find-append p xs (flat_map (λ xs. xs) xss) ∙ first_of_two (find p xs) _ a parts.0 (find_within p xss i d a (omega arith) parts.1 here)

-- ---- names with numbers

-- names with numbers are nets
pub all_known : (nets names : List Name) (numbers : List ℕ) → AllZip (Numbers nets) names numbers → first_unknown nets names ≡ None
all_known nets [] [] a = refl
all_known nets [] (i ∷ is) a = absurd a
all_known nets (n ∷ ns) [] a = absurd a
all_known nets (n ∷ ns) (i ∷ is) a = rw (stands_in-at nets i n a.0) (all_known nets ns is a.1)

both_none : {A : Type 0} (a b : Option A) → a ≡ None → b ≡ None → option_or a b ≡ None
both_none None b e f = f
both_none (Some x) b e f = absurd (cc e)

pub words_known : (nets : List Name) (named : List (List Name)) (words : Words) → AreNamed nets named words → first_unknown nets (flat_map (λ names. names) named) ≡ None
words_known nets [] [] a = refl
words_known nets [] (w ∷ ws) a = absurd a
words_known nets (names ∷ named) [] a = absurd a
words_known nets (names ∷ named) (w ∷ ws) a =
    find-append (λ n. not (stands_in n nets)) names (flat_map (λ ns. ns) named) ∙ both_none _ _ (all_known nets names w a.0) (words_known nets named ws a.1)

-- an element that is there
pub at_is : {A : Type 0} (xs : List A) (i : ℕ) (x d : A) → slice_get xs i ≡ Some x → get_or xs i d ≡ x
at_is [] i x d e = absurd (cc e)
at_is (y ∷ xs) zero x d e = let h : Some y ≡ Some x = e in cc h
at_is (y ∷ xs) (suc i) x d e = at_is xs i x d e

pub at_within : {A : Type 0} (xs : List A) (i : ℕ) (x : A) → slice_get xs i ≡ Some x → i < length xs
at_within [] i x e = absurd (cc e)
at_within (y ∷ xs) zero x e = omega arith
at_within (y ∷ xs) (suc i) x e = let h = at_within xs i x e in omega arith

-- the names are those of the numbers
pub names_of_numbers : (nets names : List Name) (numbers : List ℕ) → AllZip (Numbers nets) names numbers → names ≡ nets_at nets numbers
names_of_numbers nets [] [] a = refl
names_of_numbers nets [] (i ∷ is) a = absurd a
names_of_numbers nets (n ∷ ns) [] a = absurd a
names_of_numbers nets (n ∷ ns) (i ∷ is) a =
    ap (λ m. m ∷ ns) (sym (at_is nets i n [] a.0)) ∙ ap (λ ms. net_at nets i ∷ ms) (names_of_numbers nets ns is a.1)

pub names_of_words : (nets : List Name) (named : List (List Name)) (words : Words) → AreNamed nets named words → flat_map (λ names. names) named ≡ nets_at nets (all_numbers words)
names_of_words nets [] [] a = refl
names_of_words nets [] (w ∷ ws) a = absurd a
names_of_words nets (names ∷ named) [] a = absurd a
names_of_words nets (names ∷ named) (w ∷ ws) a =
    ap (λ ns. ns ++ flat_map (λ names. names) named) (names_of_numbers nets names w a.0)
    ∙ (ap (λ ns. nets_at nets w ++ ns) (names_of_words nets named ws a.1) ∙ sym (map-append (net_at nets) w (all_numbers ws)))

pub numbers_within : (nets names : List Name) (numbers : List ℕ) → AllZip (Numbers nets) names numbers → AllByRecursion (λ i. i < length nets) numbers
numbers_within nets [] [] a = tt
numbers_within nets [] (i ∷ is) a = absurd a
numbers_within nets (n ∷ ns) [] a = absurd a
numbers_within nets (n ∷ ns) (i ∷ is) a = (at_within nets i n a.0, numbers_within nets ns is a.1)

-- ---- lists that loops go through

-- an element that was read
pub item_at : {A : Type 0} (xs : List A) (i : ℕ) (x d : A) → i < length xs → x ≡ get_or xs i x → get_or xs i d ≡ x
item_at [] i x d h e = absurd (omega arith)
item_at (y ∷ xs) zero x d h e = sym e
item_at (y ∷ xs) (suc i) x d h e = item_at xs i x d (omega arith) e

pub split_at : {A : Type 0} (xs : List A) (i : ℕ) (d : A) → i < length xs → xs ≡ take i xs ++ get_or xs i d ∷ drop (suc i) xs
split_at [] i d h = absurd (omega arith)
split_at (x ∷ xs) zero d h = refl
split_at (x ∷ xs) (suc i) d h = ap (λ ys. x ∷ ys) (split_at xs i d (omega arith))

pub drop_less : {A : Type 0} (xs : List A) (i j : ℕ) (d : A) → i ≡ suc j → j < length xs → drop j xs ≡ get_or xs j d ∷ drop i xs
drop_less [] i j d e h = absurd (omega arith)
drop_less (x ∷ xs) i zero d e h = rw e refl
drop_less (x ∷ xs) i (suc j) d e h = rw e (drop_less xs (suc j) j d refl (omega arith))

pub written_back : {A : Type 0} (xs ys : List A) (n : ℕ) → n ≡ length xs → take n (xs ++ ys) ≡ xs
written_back [] ys n e = rw e refl
written_back (x ∷ xs) ys n e = rw e (ap (λ zs. x ∷ zs) (written_back xs ys (length xs) refl))

-- one element more that doesn't pass
pub none_more : {A : Type 0} (p : A → Bool) (xs : List A) (i : ℕ) (d : A) → i < length xs → find p (take i xs) ≡ None → p (get_or xs i d) ≡ false → find p (take (i + 1) xs) ≡ None
none_more p xs i d h none here =
    ap (find p) (take_more xs i d h) ∙ (find-append p (take i xs) (get_or xs i d ∷ []) ∙ both_none _ _ none (rw here refl))
