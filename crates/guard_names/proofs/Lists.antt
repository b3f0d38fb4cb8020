-- Lists: what holds of all items, what a test keeps, and items beside the nets of gates.
use Rattle.std.proofs.Common.{◌≡◌, refl, ◌∙◌, ap, subst, ℕ, zero, suc, ◌+◌, ◌<◌, ◌≤◌, Bool, true, false, cond, List, [], ◌∷◌, ◌++◌, length, map, filter, Some, slice_get, arith}
use Rattle.std.specs.Prelude.{nat_lt, if◌then◌else◌}
use Rattle.std.specs.List.{AllByRecursion, AllZip, flat_map, enumerate_from, range_with_len}
use Rattle.std.proofs.lemmas.Bool.{ltb-true, ltb-false}
use Rattle.netlist_spec.specs.Netlist.{Name}
use Rattle.netlist_spec.specs.Written.{Label, given}
use Rattle.guard_spec.specs.Words.{Words}
use Rattle.size_laws.specs.Labels.{word_labels}
use Rattle.size_laws.specs.TakenOver.{names_from}
use Rattle.guard_names.specs.Labels.{beside_gates}

pub all_by : {A : Type 0} (P Q : A → Type 0) → ((x : A) → P x → Q x) → (xs : List A) → AllByRecursion P xs → AllByRecursion Q xs
all_by P Q f [] h = tt
all_by P Q f (x ∷ xs) h = (f x h.0, all_by P Q f xs h.1)

pub all_of : {A : Type 0} (P : A → Type 0) → ((x : A) → P x) → (xs : List A) → AllByRecursion P xs
all_of P f [] = tt
all_of P f (x ∷ xs) = (f x, all_of P f xs)

pub all_join : {A : Type 0} (P : A → Type 0) (xs ys : List A) → AllByRecursion P xs → AllByRecursion P ys → AllByRecursion P (xs ++ ys)
all_join P [] ys h k = k
all_join P (x ∷ xs) ys h k = (h.0, all_join P xs ys h.1 k)

pub all_split : {A : Type 0} (P : A → Type 0) (xs ys : List A) → AllByRecursion P (xs ++ ys) → AllByRecursion P xs × AllByRecursion P ys
all_split P [] ys h = (tt, h)
all_split P (x ∷ xs) ys h = let rest = all_split P xs ys h.1 in ((h.0, rest.0), rest.1)

pub all_map : {A B : Type 0} (P : B → Type 0) (f : A → B) (xs : List A) → AllByRecursion (λ x. P (f x)) xs → AllByRecursion P (map f xs)
all_map P f [] h = tt
all_map P f (x ∷ xs) h = (h.0, all_map P f xs h.1)

pub all_filter : {A : Type 0} (P : A → Type 0) (t : A → Bool) (xs : List A) → AllByRecursion P xs → AllByRecursion P (filter t xs)
all_filter P t [] h = tt
all_filter {A} P t (x ∷ xs) h = by_test (t x) (all_filter P t xs h.1)
  where
    by_test : (b : Bool) → AllByRecursion P (filter t xs) → AllByRecursion P (cond b (x ∷ filter t xs) (filter t xs))
    by_test true later = (h.0, later)
    by_test false later = later

pub passes_filter : {A : Type 0} (t : A → Bool) (xs : List A) → AllByRecursion (λ x. t x ≡ true) (filter t xs)
passes_filter t [] = tt
passes_filter {A} t (x ∷ xs) = by_test (t x) refl (passes_filter t xs)
  where
    by_test : (b : Bool) → t x ≡ b → AllByRecursion (λ (y : A). t y ≡ true) (filter t xs) → AllByRecursion (λ (y : A). t y ≡ true) (cond b (x ∷ filter t xs) (filter t xs))
    by_test true e h = (e, h)
    by_test false e h = h

pub none_kept : {A : Type 0} (t : A → Bool) (xs : List A) → AllByRecursion (λ x. t x ≡ false) xs → filter t xs ≡ []
none_kept t [] h = refl
none_kept t (x ∷ xs) h = ap (λ b. cond b (x ∷ filter t xs) (filter t xs)) h.0 ∙ none_kept t xs h.1

-- a test of names that passes the same labels as one of labels
pub filter_names : (name : Label → Name) (t : Name → Bool) (s : Label → Bool) (xs : List Label) → AllByRecursion (λ x. t (name x) ≡ s x) xs → filter t (map name xs) ≡ map name (filter s xs)
filter_names name t s [] h = refl
filter_names name t s (x ∷ xs) h = ap (λ b. cond b (name x ∷ filter t (map name xs)) (filter t (map name xs))) h.0 ∙ by_test (s x) (filter_names name t s xs h.1)
  where
    by_test : (b : Bool) → filter t (map name xs) ≡ map name (filter s xs) → cond b (name x ∷ filter t (map name xs)) (filter t (map name xs)) ≡ map name (cond b (x ∷ filter s xs) (filter s xs))
    by_test true e = ap (λ ns. name x ∷ ns) e
    by_test false e = e

row_all : {A : Type 0} (P : A → Type 0) (f : ℕ → A) → ((i : ℕ) → P (f i)) → (a n : ℕ) → AllByRecursion P (map f (range_with_len a n))
row_all P f h a zero = tt
row_all P f h a (suc n) = (h a, row_all P f h (a + 1) n)

pub all_row : {A : Type 0} (P : A → Type 0) (f : ℕ → A) → ((i : ℕ) → P (f i)) → (n : ℕ) → AllByRecursion P (map f (range_with_len 0 n))
all_row P f h n = row_all P f h 0 n

pub all_places : (P : Label → Type 0) (label : ℕ → ℕ → Label) (places : List ℕ → ℕ) → ((w i : ℕ) → P (label w i)) → (words : Words) → AllByRecursion P (word_labels label places words)
all_places P label places h words = from 0 words
  where
    from : (a : ℕ) (ws : Words) → AllByRecursion P (flat_map (λ (word : ℕ × List ℕ). map (label word.0) (range_with_len 0 (places word.1))) (enumerate_from a ws))
    from a [] = tt
    from a (w ∷ ws) = all_join P (map (label a) (range_with_len 0 (places w))) _ (row_all P (label a) (h a) 0 (places w)) (from (a + 1) ws)

pub zip_split : {A B : Type 0} (R : A → B → Type 0) (xs ys : List A) (us vs : List B) → length xs ≡ length us → AllZip R (xs ++ ys) (us ++ vs) → AllZip R xs us × AllZip R ys vs
zip_split R [] ys [] vs e h = (tt, h)
zip_split R [] ys (u ∷ us) vs e h = absurd (omega arith)
zip_split R (x ∷ xs) ys [] vs e h = absurd (omega arith)
zip_split R (x ∷ xs) ys (u ∷ us) vs e h = let rest = zip_split R xs ys us vs (omega arith) h.1 in ((h.0, rest.0), rest.1)

pub zip_at : {A B : Type 0} (R : A → B → Type 0) (xs : List A) (ys : List B) (i : ℕ) (y : B) → AllZip R xs ys → slice_get ys i ≡ Some y → (x : A) × (slice_get xs i ≡ Some x) × R x y
zip_at R [] [] i y h e = cc e
zip_at R [] (z ∷ ys) i y h e = absurd h
zip_at R (x ∷ xs) [] i y h e = absurd h
zip_at R (x ∷ xs) (z ∷ ys) zero y h e = let same : z ≡ y = cc e in (x, refl, subst (λ k. R x k) same h.0)
zip_at R (x ∷ xs) (z ∷ ys) (suc i) y h e = zip_at R xs ys i y h.1 e

pub zip_maps : {A B C : Type 0} (f : A → C) (h : B → C) (R : A → B → Type 0) → ((x : A) (y : B) → R x y → f x ≡ h y) → (xs : List A) (ys : List B) → AllZip R xs ys → map f xs ≡ map h ys
zip_maps f h R same [] [] z = refl
zip_maps f h R same [] (y ∷ ys) z = absurd z
zip_maps f h R same (x ∷ xs) [] z = absurd z
zip_maps {A} {B} {C} f h R same (x ∷ xs) (y ∷ ys) z = ap (λ (k : C). k ∷ map f xs) (same x y z.0) ∙ ap (λ (ks : List C). h y ∷ ks) (zip_maps f h R same xs ys z.1)

-- ---- beside the nets of gates

pub as_many : {A B : Type 0} (leaves : ℕ) (xs : List A) (ys : List B) (ns : List ℕ) → length xs ≡ length ys → length (beside_gates leaves xs ns) ≡ length (beside_gates leaves ys ns)
as_many leaves [] [] ns e = refl
as_many leaves [] (y ∷ ys) ns e = absurd (omega arith)
as_many leaves (x ∷ xs) [] ns e = absurd (omega arith)
as_many leaves (x ∷ xs) (y ∷ ys) [] e = refl
as_many leaves (x ∷ xs) (y ∷ ys) (n ∷ ns) e = by_test (nat_lt n leaves) (as_many leaves xs ys ns (omega arith))
  where
    by_test : (b : Bool) → length (beside_gates leaves xs ns) ≡ length (beside_gates leaves ys ns) → length (if b then beside_gates leaves xs ns else x ∷ beside_gates leaves xs ns) ≡ length (if b then beside_gates leaves ys ns else y ∷ beside_gates leaves ys ns)
    by_test true h = h
    by_test false h = ap suc h

all_gates : {A : Type 0} (leaves : ℕ) (ys : List A) (ns : List ℕ) → length ns ≡ length ys → ((i n : ℕ) → slice_get ns i ≡ Some n → leaves ≤ n) → beside_gates leaves ys ns ≡ ys
all_gates leaves [] ns e high = refl
all_gates leaves (y ∷ ys) [] e high = absurd (omega arith)
all_gates leaves (y ∷ ys) (n ∷ ns) e high = by_test (nat_lt n leaves) refl (all_gates leaves ys ns (omega arith) (λ i k f. high (suc i) k f))
  where
    by_test : (b : Bool) → nat_lt n leaves ≡ b → beside_gates leaves ys ns ≡ ys → (if b then beside_gates leaves ys ns else y ∷ beside_gates leaves ys ns) ≡ y ∷ ys
    by_test true t h = absurd (let low = ltb-true n leaves t in let gate = high 0 n refl in omega arith)
    by_test false t h = ap (λ zs. y ∷ zs) h

-- where all nets from some place on are gates
pub gates_split : {A : Type 0} (leaves : ℕ) (xs ys : List A) (ns : List ℕ) → length ns ≡ length xs + length ys → ((i n : ℕ) → length xs ≤ i → slice_get ns i ≡ Some n → leaves ≤ n) → beside_gates leaves (xs ++ ys) ns ≡ beside_gates leaves xs ns ++ ys
gates_split leaves [] ys ns e high = all_gates leaves ys ns (omega arith) (λ i n f. high i n (omega arith) f)
gates_split leaves (x ∷ xs) ys [] e high = absurd (omega arith)
gates_split leaves (x ∷ xs) ys (n ∷ ns) e high = by_test (nat_lt n leaves) (gates_split leaves xs ys ns (omega arith) (λ i k h f. high (suc i) k (omega arith) f))
  where
    by_test : (b : Bool) → beside_gates leaves (xs ++ ys) ns ≡ beside_gates leaves xs ns ++ ys → (if b then beside_gates leaves (xs ++ ys) ns else x ∷ beside_gates leaves (xs ++ ys) ns) ≡ (if b then beside_gates leaves xs ns else x ∷ beside_gates leaves xs ns) ++ ys
    by_test true h = h
    by_test false h = ap (λ zs. x ∷ zs) h

-- Outputs of a guard are gates exactly where those of the source are no data inputs.
pub gates_of_source : (inputs leaves : ℕ) (xs : List Name) (os ns : List ℕ) → inputs ≤ leaves → length xs ≡ length os → length os ≤ length ns
    → ((i o : ℕ) → slice_get os i ≡ Some o → o < inputs → slice_get ns i ≡ Some o) → ((i n : ℕ) → slice_get ns i ≡ Some n → n < leaves → (n < inputs) × (slice_get os i ≡ Some n))
    → beside_gates leaves (map (λ n. given n) xs) ns ≡ map (λ n. given n) (names_from inputs xs os)
gates_of_source inputs leaves [] os ns low e f all passes = refl
gates_of_source inputs leaves (x ∷ xs) [] ns low e f all passes = absurd (omega arith)
gates_of_source inputs leaves (x ∷ xs) (o ∷ os) [] low e f all passes = absurd (omega arith)
gates_of_source inputs leaves (x ∷ xs) (o ∷ os) (n ∷ ns) low e f all passes =
    by_tests (nat_lt n leaves) (nat_lt o inputs) refl refl (gates_of_source inputs leaves xs os ns low (omega arith) (omega arith) (λ i k h. all (suc i) k h) (λ i k h. passes (suc i) k h))
  where
    by_tests : (b c : Bool) → nat_lt n leaves ≡ b → nat_lt o inputs ≡ c → beside_gates leaves (map (λ n. given n) xs) ns ≡ map (λ n. given n) (names_from inputs xs os)
        → (if b then beside_gates leaves (map (λ n. given n) xs) ns else given x ∷ beside_gates leaves (map (λ n. given n) xs) ns) ≡ map (λ n. given n) (if c then names_from inputs xs os else x ∷ names_from inputs xs os)
    by_tests true true s t h = h
    by_tests false false s t h = ap (λ ls. given x ∷ ls) h
    by_tests true false s t h = absurd (let both = passes 0 n refl (ltb-true n leaves s) in let same : o ≡ n = cc both.1 in let high = ltb-false o inputs t in let small = both.0 in omega arith)
    by_tests false true s t h = absurd (let small = ltb-true o inputs t in let at = all 0 o refl small in let same : n ≡ o = cc at in let high = ltb-false n leaves s in omega arith)

-- what holds of each output: of leaves by itself, and of gates by their labels
pub each_shown : (leaves : ℕ) (f : ℕ → Name) (h : Label → Name) (xs : List Label) (ns : List ℕ) → length ns ≡ length xs → ((i n : ℕ) (x : Label) → slice_get ns i ≡ Some n → n < leaves → slice_get xs i ≡ Some x → f n ≡ h x)
    → AllZip (λ n x. f n ≡ h x) (beside_gates leaves ns ns) (beside_gates leaves xs ns) → map f ns ≡ map h xs
each_shown leaves f h [] [] e leaf z = refl
each_shown leaves f h [] (n ∷ ns) e leaf z = absurd (omega arith)
each_shown leaves f h (x ∷ xs) [] e leaf z = absurd (omega arith)
each_shown leaves f h (x ∷ xs) (n ∷ ns) e leaf z = by_test (nat_lt n leaves) refl (each_shown leaves f h xs ns (omega arith) (λ i k y a b c. leaf (suc i) k y a b c)) z
  where
    by_test : (b : Bool) → nat_lt n leaves ≡ b → (AllZip (λ n x. f n ≡ h x) (beside_gates leaves ns ns) (beside_gates leaves xs ns) → map f ns ≡ map h xs)
        → AllZip (λ n x. f n ≡ h x) (if b then beside_gates leaves ns ns else n ∷ beside_gates leaves ns ns) (if b then beside_gates leaves xs ns else x ∷ beside_gates leaves xs ns) → f n ∷ map f ns ≡ h x ∷ map h xs
    by_test true t later z = ap (λ (k : Name). k ∷ map f ns) (leaf 0 n x refl (ltb-true n leaves t) refl) ∙ ap (λ (ks : List Name). h x ∷ ks) (later z)
    by_test false t later z = ap (λ (k : Name). k ∷ map f ns) z.0 ∙ ap (λ (ks : List Name). h x ∷ ks) (later z.1)

pub all_from : (P : Name → Type 0) (first : ℕ) (xs : List Name) (nets : List ℕ) → AllByRecursion P xs → AllByRecursion P (names_from first xs nets)
all_from P first [] nets h = tt
all_from P first (x ∷ xs) [] h = tt
all_from P first (x ∷ xs) (k ∷ nets) h = by_test (nat_lt k first) (all_from P first xs nets h.1)
  where
    by_test : (b : Bool) → AllByRecursion P (names_from first xs nets) → AllByRecursion P (if b then names_from first xs nets else x ∷ names_from first xs nets)
    by_test true later = later
    by_test false later = (h.0, later)
