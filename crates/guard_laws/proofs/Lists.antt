-- Lists, their parts, and ranges of numbers.
use Rattle.std.proofs.Common.{◌≡◌, refl, ◌∙◌, ap, ap₂, ℕ, zero, suc, ◌+◌, ◌-◌, ◌<◌, ◌≤◌, ◌⊎◌, Bool, false, List, [], ◌∷◌, ◌++◌, length, map, get_or, take, drop, arith, slice_get, Some, Contains}
use Rattle.std.specs.Prelude.{slice_range}
use Rattle.std.specs.List.{AllByRecursion, range_with_len, AllZip}
use Rattle.netlist_spec.specs.SourceRun.{Bits}

pub maps_append : {A : Type 0} (v : A → Bool) (xs ys : List A) → map v (xs ++ ys) ≡ map v xs ++ map v ys
maps_append v [] ys = refl
maps_append v (x ∷ xs) ys = ap (λ (bs : Bits). v x ∷ bs) (maps_append v xs ys)

pub range_join : (a n m : ℕ) → range_with_len a n ++ range_with_len (a + n) m ≡ range_with_len a (n + m)
range_join a zero m = ap₂ range_with_len (let e : a + 0 ≡ a = omega arith in e) (let e : m ≡ 0 + m = omega arith in e)
range_join a (suc n) m =
    ap (λ (ks : List ℕ). a ∷ ks) (ap (λ (k : ℕ). range_with_len (a + 1) n ++ range_with_len k m) (let e : a + suc n ≡ (a + 1) + n = omega arith in e) ∙ range_join (a + 1) n m)
    ∙ ap (range_with_len a) (let e : suc (n + m) ≡ suc n + m = omega arith in e)

pub drop_map : {A B : Type 0} (f : A → B) (n : ℕ) (xs : List A) → drop n (map f xs) ≡ map f (drop n xs)
drop_map f zero xs = refl
drop_map f (suc n) [] = refl
drop_map f (suc n) (x ∷ xs) = drop_map f n xs

pub take_map : {A B : Type 0} (f : A → B) (n : ℕ) (xs : List A) → take n (map f xs) ≡ map f (take n xs)
take_map f zero xs = refl
take_map f (suc n) [] = refl
take_map f (suc n) (x ∷ xs) = ap (λ ys. f x ∷ ys) (take_map f n xs)

pub slice_of_map : (f : ℕ → Bool) (xs : List ℕ) (a b : ℕ) → slice_range (map f xs) a b ≡ map f (slice_range xs a b)
slice_of_map f xs a b = ap (take (b - a)) (drop_map f a xs) ∙ take_map f (b - a) (drop a xs)

pub drop_range : (a n i : ℕ) → i ≤ n → drop i (range_with_len a n) ≡ range_with_len (a + i) (n - i)
drop_range a n zero h = ap₂ range_with_len (let e : a ≡ a + 0 = omega arith in e) (let e : n ≡ n - 0 = omega arith in e)
drop_range a zero (suc i) h = absurd (omega arith)
drop_range a (suc n) (suc i) h = drop_range (a + 1) n i (omega arith) ∙ ap₂ range_with_len (let e : (a + 1) + i ≡ a + suc i = omega arith in e) (let e : n - i ≡ suc n - suc i = omega arith in e)

pub take_range : (a n i : ℕ) → i ≤ n → take i (range_with_len a n) ≡ range_with_len a i
take_range a n zero h = refl
take_range a zero (suc i) h = absurd (omega arith)
take_range a (suc n) (suc i) h = ap (λ (ks : List ℕ). a ∷ ks) (take_range (a + 1) n i (omega arith))

pub slice_of_range : (a n i m : ℕ) → i + m ≤ n → slice_range (range_with_len a n) i (i + m) ≡ range_with_len (a + i) m
slice_of_range a n i m h =
    ap (take ((i + m) - i)) (drop_range a n i (omega arith))
    ∙ ap (λ (k : ℕ). take k (range_with_len (a + i) (n - i))) (let e : (i + m) - i ≡ m = omega arith in e) ∙ take_range (a + i) (n - i) m (omega arith)

pub get_map_or : (f : ℕ → Bool) (xs : List ℕ) (i : ℕ) → i < length xs → get_or (map f xs) i false ≡ f (get_or xs i 0)
get_map_or f [] i h = absurd (omega arith)
get_map_or f (x ∷ xs) zero h = refl
get_map_or f (x ∷ xs) (suc i) h = get_map_or f xs i (omega arith)

pub get_front : {A : Type 0} (xs ys : List A) (i : ℕ) → i < length xs → slice_get (xs ++ ys) i ≡ slice_get xs i
get_front [] ys i h = absurd (omega arith)
get_front (x ∷ xs) ys zero h = refl
get_front (x ∷ xs) ys (suc i) h = get_front xs ys i (omega arith)

pub inside : {A : Type 0} (xs : List A) (i : ℕ) (x : A) → slice_get xs i ≡ Some x → i < length xs
inside [] i x e = cc e
inside (y ∷ xs) zero x e = omega arith
inside (y ∷ xs) (suc i) x e = let h = inside xs i x e in omega arith

pub get_map : {A B : Type 0} (f : A → B) (xs : List A) (i : ℕ) (x : A) → slice_get xs i ≡ Some x → slice_get (map f xs) i ≡ Some (f x)
get_map f [] i x e = cc e
get_map f (a ∷ xs) zero x e = let same : a ≡ x = cc e in ap (λ y. Some (f y)) same
get_map f (a ∷ xs) (suc i) x e = get_map f xs i x e

pub to_or : (xs : Bits) (i : ℕ) (b : Bool) → slice_get xs i ≡ Some b → get_or xs i false ≡ b
to_or [] i b e = cc e
to_or (x ∷ xs) zero b e = let same : x ≡ b = cc e in same
to_or (x ∷ xs) (suc i) b e = to_or xs i b e

pub get_of_map : (f : ℕ → Bool) (xs : List ℕ) (i x : ℕ) → slice_get xs i ≡ Some x → get_or (map f xs) i false ≡ f x
get_of_map f xs i x e = to_or (map f xs) i (f x) (get_map f xs i x e)

pub all_of : {A : Type 0} (P : A → Type 0) (xs : List A) → ((x : A) → Contains xs x → P x) → AllByRecursion P xs
all_of P [] f = tt
all_of P (x ∷ xs) f = (f x (0, omega arith, refl), all_of P xs (λ y (k, inside, e). f y (suc k, omega arith, e)))

pub as_long : {A B : Type 0} (R : A → B → Type 0) (xs : List A) (ys : List B) → AllZip R xs ys → length xs ≡ length ys
as_long R [] [] h = refl
as_long R [] (y ∷ ys) h = absurd h
as_long R (x ∷ xs) [] h = absurd h
as_long R (x ∷ xs) (y ∷ ys) h = ap suc (as_long R xs ys h.1)

pub below_or : (a b : ℕ) → (a < b) ⊎ (b ≤ a)
below_or a b = grind arith
