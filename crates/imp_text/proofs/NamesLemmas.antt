-- Lists of distinct names.
use Rattle.std.proofs.Common.{◌≡◌, refl, sym, ◌∙◌, ap, ℕ, zero, suc, ◌^◌, ◌<◌, ◌≤◌, List, [], ◌∷◌, ◌++◌, Bool, true, false, ◌&&◌, ◌||◌, not, cond, filter, length, map, Some, Vec, arith, slice_get, get_or, length-append}
use Rattle.std.specs.Prelude.{position, option_map, if◌then◌else◌}
use Rattle.std.specs.List.{AllByRecursion, list_any}
use Rattle.std.specs.declared.alloc.Global.{Global}
use Rattle.std.specs.Cmp.Lexicographic.{bytes_decides}
use Rattle.std.proofs.lemmas.Bool.{and_parts, not-true, or_right}
use Rattle.std.proofs.lemmas.List.Quantifiers.{position-Some}
use Rattle.std.proofs.lemmas.List.Folds.{list_any-append}
use Rattle.std.proofs.lemmas.Option.{slice_get-map, slice_get-get_or}
use Rattle.std.proofs.lemmas.List.{map-append, append-nil}
use Rattle.std.proofs.lemmas.List.Elements.{filter-append}
use Rattle.std.proofs.lemmas.Map.Views.{any-filter_same}
use Rattle.indexmap.specs.IndexSet.{insert_key}
use Rattle.netlist_spec.specs.Netlist.{Name, IsName, same_name, stands_in, are_distinct}
use Rattle.netlist_spec.specs.Reads.{first_appearances}
use Rattle.imp_text.specs.Names.{names_in, AreNames, with_name}

-- the bytes of a key
abbrev pub bytes_of : Vec ℕ Global → Name
bytes_of key = key.items

pub list_any-map : {X Y : Type 0} (test : Y → Bool) (f : X → Y) (xs : List X) → list_any test (map f xs) ≡ list_any (λ x. test (f x)) xs
list_any-map test f [] = refl
list_any-map test f (x ∷ xs) = ap (λ b. test (f x) || b) (list_any-map test f xs)

pub AllByRecursion-append : {X : Type 0} (P : X → Type 0) (xs ys : List X) → AllByRecursion P xs → AllByRecursion P ys → AllByRecursion P (xs ++ ys)
AllByRecursion-append P [] ys h k = k
AllByRecursion-append P (x ∷ xs) ys h k = (h.0, AllByRecursion-append P xs ys h.1 k)

-- Names as their bytes.

pub same_name-true : (n m : Name) → same_name n m ≡ true → n ≡ m
same_name-true n m h = (bytes_decides n m).0 h

pub same_name_self : (n : Name) → same_name n n ≡ true
same_name_self n = (bytes_decides n n).1 refl

pub same_name-comm : (n m : Name) → same_name n m ≡ same_name m n
same_name-comm n m = at (same_name n m) (same_name m n) refl refl
  where
    at : (b c : Bool) → same_name n m ≡ b → same_name m n ≡ c → b ≡ c
    at true true e f = refl
    at true false e f =
        let same = same_name-true n m e in
        sym ((bytes_decides m n).1 (sym same)) ∙ f
    at false true e f =
        let same = same_name-true m n f in
        sym e ∙ (bytes_decides n m).1 (sym same)
    at false false e f = refl

-- One more name at the end.

pub stands_in-append : (n : Name) (xs ys : List Name) → stands_in n (xs ++ ys) ≡ (stands_in n xs || stands_in n ys)
stands_in-append n xs ys = list_any-append (same_name n) xs ys

and_step : (a b c d : Bool) → (not (a || (b || false)) && (c && not d)) ≡ ((not a && c) && not (b || d))
and_step true b c d = refl
and_step false true true d = refl
and_step false true false d = refl
and_step false false true d = refl
and_step false false false d = refl

-- distinct names and a further one are distinct where it isn't among them
pub are_distinct_push : (xs : List Name) (n : Name) → are_distinct (xs ++ n ∷ []) ≡ (are_distinct xs && not (stands_in n xs))
are_distinct_push [] n = refl
are_distinct_push (x ∷ xs) n =
    let rest = are_distinct_push xs n in
    let inside = stands_in-append x xs (n ∷ []) in
    ap (λ b. not b && are_distinct (xs ++ n ∷ [])) inside
    ∙ ap (λ b. not (stands_in x xs || (same_name x n || false)) && b) rest
    ∙ and_step (stands_in x xs) (same_name x n) (are_distinct xs) (stands_in n xs)
    ∙ ap (λ b. (not (stands_in x xs) && are_distinct xs) && not (b || stands_in n xs)) (same_name-comm x n)

pub AreNames_push : (xs : List Name) (n : Name) → AreNames xs → stands_in n xs ≡ false → 0 < length n → length n ≤ 255 → length xs < 2 ^ 31 → AreNames (xs ++ n ∷ [])
AreNames_push xs n are absent some short room =
    record {
      each = AllByRecursion-append IsName xs (n ∷ []) are.each ((some, short), tt);
      distinct = are_distinct_push xs n ∙ ap (λ b. b && not (stands_in n xs)) are.distinct ∙ ap not absent;
      few = omega (arith, length-append xs (n ∷ []));
    }

pub with_name-present : (xs : List Name) (n : Name) → stands_in n xs ≡ true → with_name xs n ≡ xs
with_name-present xs n h = ap (λ b. if b then xs else xs ++ n ∷ []) h

pub with_name-absent : (xs : List Name) (n : Name) → stands_in n xs ≡ false → with_name xs n ≡ xs ++ n ∷ []
with_name-absent xs n h = ap (λ b. if b then xs else xs ++ n ∷ []) h

-- A name at a place.

pub stands_in-at : (xs : List Name) (i : ℕ) (n : Name) → slice_get xs i ≡ Some n → stands_in n xs ≡ true
stands_in-at [] i n h = absurd (cc h)
stands_in-at (x ∷ xs) zero n h =
    let same : x ≡ n = cc h in
    ap (λ m. same_name n m || stands_in n xs) same ∙ ap (λ b. b || stands_in n xs) (same_name_self n)
stands_in-at (x ∷ xs) (suc i) n h = at (same_name n x) (stands_in-at xs i n h)
  where
    at : (b : Bool) → stands_in n xs ≡ true → (b || stands_in n xs) ≡ true
    at true e = refl
    at false e = e

pub slice_get_last : {X : Type 0} (xs : List X) (x : X) → slice_get (xs ++ x ∷ []) (length xs) ≡ Some x
slice_get_last [] x = refl
slice_get_last (y ∷ ys) x = slice_get_last ys x

pub slice_get-append_left : {X : Type 0} (xs ys : List X) (i : ℕ) (x : X) → slice_get xs i ≡ Some x → slice_get (xs ++ ys) i ≡ Some x
slice_get-append_left [] ys i x h = absurd (cc h)
slice_get-append_left (y ∷ xs) ys zero x h = h
slice_get-append_left (y ∷ xs) ys (suc i) x h = slice_get-append_left xs ys i x h

-- Keys.

-- the key that was looked up is at its place
pub found_key : (name : Name) (keys : List (Vec ℕ Global)) (i : ℕ) → position (λ k. same_name name (bytes_of k)) keys ≡ Some i → slice_get (names_in keys) i ≡ Some name
found_key name [] i h = absurd (cc h)
found_key name (key ∷ keys) i h =
    let is = position-Some (λ k. same_name name (bytes_of k)) (key ∷ keys) i key h in
    let there = slice_get-get_or (key ∷ keys) i key is.0 in
    let same = same_name-true name (bytes_of (get_or (key ∷ keys) i key)) is.1 in
    slice_get-map bytes_of (key ∷ keys) i ∙ ap (option_map bytes_of) there ∙ ap Some (sym same)

-- a new key goes last
pub pushed_key : (name : Name) (keys new : List (Vec ℕ Global)) (key : Vec ℕ Global) → bytes_of key ≡ name → stands_in name (names_in keys) ≡ false → new ≡ insert_key (λ a b. same_name (bytes_of a) (bytes_of b)) keys key → names_in new ≡ names_in keys ++ name ∷ []
pushed_key name keys new key is absent keys_are =
    let none : list_any (λ k. same_name (bytes_of key) (bytes_of k)) keys ≡ false
    = sym (list_any-map (same_name (bytes_of key)) bytes_of keys) ∙ ap (λ n. stands_in n (names_in keys)) is ∙ absent in
    ap names_in (keys_are ∙ ap (λ b. if b then keys else keys ++ key ∷ []) none)
    ∙ map-append bytes_of keys (key ∷ []) ∙ ap (λ n. names_in keys ++ n ∷ []) is

-- Names in order of first appearance.

kept_before : (x n : Name) (seen : List Name) (b : Bool) → same_name x n ≡ true → stands_in n seen ≡ b → filter (λ m. not (same_name x m)) (if b then seen else seen ++ n ∷ []) ≡ filter (λ m. not (same_name x m)) seen
kept_before x n seen true same there = refl
kept_before x n seen false same there =
    let out : filter (λ m. not (same_name x m)) (n ∷ []) ≡ [] = ap (λ b. cond (not b) (n ∷ []) []) same in
    filter-append (λ m. not (same_name x m)) seen (n ∷ []) ∙ ap (λ l. filter (λ m. not (same_name x m)) seen ++ l) out ∙ append-nil _

kept_behind : (x n : Name) (seen : List Name) (b : Bool) → same_name x n ≡ false → stands_in n seen ≡ b → filter (λ m. not (same_name x m)) (if b then seen else seen ++ n ∷ []) ≡ (if b then filter (λ m. not (same_name x m)) seen else filter (λ m. not (same_name x m)) seen ++ n ∷ [])
kept_behind x n seen true other there = refl
kept_behind x n seen false other there =
    let out : filter (λ m. not (same_name x m)) (n ∷ []) ≡ n ∷ [] = ap (λ b. cond (not b) (n ∷ []) []) other in
    filter-append (λ m. not (same_name x m)) seen (n ∷ []) ∙ ap (λ l. filter (λ m. not (same_name x m)) seen ++ l) out

-- a filter by another name keeps all names that are the same as n
stands_in-filter : (x n : Name) (seen : List Name) → same_name x n ≡ false → stands_in n (filter (λ m. not (same_name x m)) seen) ≡ stands_in n seen
stands_in-filter x n seen other =
    any-filter_same (same_name n) (λ m. not (same_name x m)) true
    (λ m same. ap (λ k. not (same_name x k)) (sym (same_name-true n m same)) ∙ ap not other) seen

first_step : (x n : Name) (seen : List Name) (b : Bool) → same_name x n ≡ b → x ∷ filter (λ m. not (same_name x m)) (with_name seen n) ≡ with_name (x ∷ filter (λ m. not (same_name x m)) seen) n
first_step x n seen true same =
    let there : same_name n x ≡ true = same_name-comm n x ∙ same in
    let kept = filter (λ m. not (same_name x m)) seen in
    ap (λ l. x ∷ l) (kept_before x n seen (stands_in n seen) same refl)
    ∙ sym (ap (λ b. if (b || stands_in n kept) then x ∷ kept else (x ∷ kept) ++ n ∷ []) there)
first_step x n seen false other =
    let apart : same_name n x ≡ false = same_name-comm n x ∙ other in
    let kept = filter (λ m. not (same_name x m)) seen in
    ap (λ l. x ∷ l) (kept_behind x n seen (stands_in n seen) other refl)
    ∙ inside (stands_in n seen)
    ∙ sym (ap (λ b. if b then x ∷ kept else (x ∷ kept) ++ n ∷ []) (stands_in-filter x n seen other))
    ∙ sym (ap (λ b. if (b || stands_in n kept) then x ∷ kept else (x ∷ kept) ++ n ∷ []) apart)
  where
    inside : (b : Bool) → x ∷ (if b then filter (λ m. not (same_name x m)) seen else filter (λ m. not (same_name x m)) seen ++ n ∷ []) ≡ (if b then x ∷ filter (λ m. not (same_name x m)) seen else (x ∷ filter (λ m. not (same_name x m)) seen) ++ n ∷ [])
    inside true = refl
    inside false = refl

pub first_appearances_push : (xs : List Name) (n : Name) → first_appearances (xs ++ n ∷ []) ≡ with_name (first_appearances xs) n
first_appearances_push [] n = refl
first_appearances_push (x ∷ xs) n =
    ap (λ l. x ∷ filter (λ m. not (same_name x m)) l) (first_appearances_push xs n)
    ∙ first_step x n (first_appearances xs) (same_name x n) refl

-- names grow at their end
pub with_name_grows : (xs : List Name) (n : Name) → (more : List Name) × (with_name xs n ≡ xs ++ more) × (length more ≤ 1)
with_name_grows xs n = at (stands_in n xs)
  where
    at : (b : Bool) → (more : List Name) × ((if b then xs else xs ++ n ∷ []) ≡ xs ++ more) × (length more ≤ 1)
    at true = ([], sym (append-nil xs), omega arith)
    at false = (n ∷ [], refl, omega arith)

-- Distinct names.

stands_in-middle : (xs ys : List Name) (n : Name) → stands_in n (xs ++ n ∷ ys) ≡ true
stands_in-middle [] ys n = ap (λ b. b || stands_in n ys) (same_name_self n)
stands_in-middle (x ∷ xs) ys n = or_right _ _ (stands_in-middle xs ys n)

-- a name that stands before itself
pub twice : (xs ys : List Name) (n : Name) → stands_in n xs ≡ true → are_distinct (xs ++ n ∷ ys) ≡ true → ⊥
twice [] ys n h d = cc h
twice (x ∷ xs) ys n h d =
    let parts = and_parts (not (stands_in x (xs ++ n ∷ ys))) (are_distinct (xs ++ n ∷ ys)) d in
    at (same_name n x) refl (not-true _ parts.0) (λ g. twice xs ys n g parts.1) h
  where
    at : (b : Bool) → same_name n x ≡ b → stands_in x (xs ++ n ∷ ys) ≡ false → (stands_in n xs ≡ true → ⊥) → (b || stands_in n xs) ≡ true → ⊥
    at true same absent rest h =
        let is : n ≡ x = same_name-true n x same in
        let there : stands_in x (xs ++ n ∷ ys) ≡ true = ap (λ m. stands_in m (xs ++ n ∷ ys)) (sym is) ∙ stands_in-middle xs ys n in
        cc (there, absent)
    at false same absent rest h = rest h

-- a name has one place
pub one_place : (xs : List Name) (i j : ℕ) (n : Name) → are_distinct xs ≡ true → slice_get xs i ≡ Some n → slice_get xs j ≡ Some n → i ≡ j
one_place [] i j n d h k = absurd (cc h)
one_place (x ∷ xs) zero zero n d h k = refl
one_place (x ∷ xs) zero (suc j) n d h k =
    let parts = and_parts (not (stands_in x xs)) (are_distinct xs) d in
    let is : x ≡ n = cc h in
    let absent : stands_in x xs ≡ false = not-true _ parts.0 in
    let there : stands_in x xs ≡ true = ap (λ m. stands_in m xs) is ∙ stands_in-at xs j n k in
    absurd (cc (there, absent))
one_place (x ∷ xs) (suc i) zero n d h k =
    let parts = and_parts (not (stands_in x xs)) (are_distinct xs) d in
    let is : x ≡ n = cc k in
    let absent : stands_in x xs ≡ false = not-true _ parts.0 in
    let there : stands_in x xs ≡ true = ap (λ m. stands_in m xs) is ∙ stands_in-at xs i n h in
    absurd (cc (there, absent))
one_place (x ∷ xs) (suc i) (suc j) n d h k =
    let parts = and_parts (not (stands_in x xs)) (are_distinct xs) d in
    ap suc (one_place xs i j n parts.1 h k)
