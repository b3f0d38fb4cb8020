-- Labels of gates in order: inner ones, and between them those of some nets.
use Rattle.std.proofs.Common.{◌≡◌, refl, sym, ◌∙◌, ap, ap₂, subst, ℕ, zero, suc, ◌+◌, ◌-◌, ◌<◌, List, [], ◌∷◌, ◌++◌, length, map, Some, slice_get, arith, length-append, append_assoc}
use Rattle.std.specs.List.{AllByRecursion, AllZip, range_with_len}
use Rattle.std.proofs.lemmas.List.{map-append}
use Rattle.std.proofs.lemmas.List.FromFn.{length-map-range_with_len}
use Rattle.netlist_spec.specs.Written.{Label, inner}
use Rattle.size_laws.specs.BitOrder.{labels_from}
use Rattle.guard_names.specs.Labels.{IsRising, end_of, between}
use Rattle.guard_names.proofs.Rising.{rising_end}

pub between_long : {A : Type 0} (f : ℕ → A) (first count : ℕ) (nets : List ℕ) (own : List A) → IsRising first nets → length nets ≡ length own → first + length (between f first count nets own) ≡ end_of first nets
between_long f first count [] own h e = let z : first + 0 ≡ first = omega arith in z
between_long f first count (n ∷ nets) [] h e = absurd (omega arith)
between_long f first count (n ∷ nets) (x ∷ own) h e =
    let row = length-map-range_with_len f count (n - first) in
    let all = length-append (map f (range_with_len count (n - first))) (x ∷ between f (n + 1) (count + (n - first)) nets own) in
    let low = h.0 in
    let rest = between_long f (n + 1) (count + (n - first)) nets own h.1 (omega arith) in
    let step : first + length (map f (range_with_len count (n - first)) ++ x ∷ between f (n + 1) (count + (n - first)) nets own) ≡ (n + 1) + length (between f (n + 1) (count + (n - first)) nets own) = omega arith in
    step ∙ rest

at_seam : {A : Type 0} (xs : List A) (x : A) (ys : List A) (n : ℕ) → length xs ≡ n → slice_get (xs ++ x ∷ ys) n ≡ Some x
at_seam [] x ys zero e = refl
at_seam [] x ys (suc n) e = absurd (omega arith)
at_seam (a ∷ xs) x ys zero e = absurd (omega arith)
at_seam (a ∷ xs) x ys (suc n) e = at_seam xs x ys n (omega arith)

-- each of the nets has its label
pub placed : {A : Type 0} (f : ℕ → A) (front : List A) (first count : ℕ) (nets : List ℕ) (own : List A) → length front ≡ first → IsRising first nets → length nets ≡ length own
    → AllZip (λ n x. slice_get (front ++ between f first count nets own) n ≡ Some x) nets own
placed f front first count [] [] long h e = tt
placed f front first count [] (x ∷ own) long h e = absurd (omega arith)
placed f front first count (n ∷ nets) [] long h e = absurd (omega arith)
placed {A} f front first count (n ∷ nets) (x ∷ own) long h e =
    let row : List A = map f (range_with_len count (n - first)) in
    let rest : List A = between f (n + 1) (count + (n - first)) nets own in
    let low = h.0 in
    let many = length-map-range_with_len f count (n - first) in
    let joined = length-append front row in
    let before : length (front ++ row) ≡ n = omega arith in
    let more = length-append (front ++ row) (x ∷ []) in
    let next : length ((front ++ row) ++ x ∷ []) ≡ n + 1 = omega arith in
    let whole : front ++ (row ++ x ∷ rest) ≡ ((front ++ row) ++ x ∷ []) ++ rest = sym (append_assoc (front ++ row) (x ∷ []) rest ∙ append_assoc front row (x ∷ rest)) in (
      ap (λ (ls : List A). slice_get ls n) (sym (append_assoc front row (x ∷ rest))) ∙ at_seam (front ++ row) x rest n before,
      subst (λ (ls : List A). AllZip (λ k y. slice_get ls k ≡ Some y) nets own) (sym whole) (placed f ((front ++ row) ++ x ∷ []) (n + 1) (count + (n - first)) nets own next h.1 (omega arith)),
    )

row_mapped : {A B : Type 0} (g : A → B) (f : ℕ → A) (a n : ℕ) → map g (map f (range_with_len a n)) ≡ map (λ i. g (f i)) (range_with_len a n)
row_mapped g f a zero = refl
row_mapped {A} {B} g f a (suc n) = ap (λ (xs : List B). g (f a) ∷ xs) (row_mapped g f (a + 1) n)

pub between_mapped : {A B : Type 0} (g : A → B) (f : ℕ → A) (first count : ℕ) (nets : List ℕ) (own : List A) → map g (between f first count nets own) ≡ between (λ i. g (f i)) first count nets (map g own)
between_mapped g f first count [] own = refl
between_mapped g f first count (n ∷ nets) [] = refl
between_mapped {A} {B} g f first count (n ∷ nets) (x ∷ own) =
    map-append g (map f (range_with_len count (n - first))) (x ∷ between f (n + 1) (count + (n - first)) nets own)
    ∙ ap₂ (λ (xs ys : List B). xs ++ ys) (row_mapped g f count (n - first)) (ap (λ (ys : List B). g x ∷ ys) (between_mapped g f (n + 1) (count + (n - first)) nets own))

-- ---- the same, bit by bit

abbrev pub bits_of : ℕ → List ℕ → List Label → List (ℕ × Label)
bits_of first [] own = []
bits_of first (n ∷ nets) [] = []
bits_of first (n ∷ nets) (x ∷ own) = (n - first, x) ∷ bits_of (n + 1) nets own

pub bits_own : (first : ℕ) (nets : List ℕ) (own : List Label) → length nets ≡ length own → map (λ (bit : ℕ × Label). bit.1) (bits_of first nets own) ≡ own
bits_own first [] [] e = refl
bits_own first [] (x ∷ own) e = absurd (omega arith)
bits_own first (n ∷ nets) [] e = absurd (omega arith)
bits_own first (n ∷ nets) (x ∷ own) e = ap (λ (ls : List Label). x ∷ ls) (bits_own (n + 1) nets own (omega arith))

pub by_bits : (first count : ℕ) (nets : List ℕ) (own : List Label) → between (λ i. inner i) first count nets own ≡ labels_from count (bits_of first nets own)
by_bits first count [] own = refl
by_bits first count (n ∷ nets) [] = refl
by_bits first count (n ∷ nets) (x ∷ own) = ap (λ (ls : List Label). map inner (range_with_len count (n - first)) ++ x ∷ ls) (by_bits (n + 1) (count + (n - first)) nets own)

-- ---- what holds of all of them

row_all : {A : Type 0} (P : A → Type 0) (f : ℕ → A) (a n : ℕ) → ((i : ℕ) → i < a + n → P (f i)) → AllByRecursion P (map f (range_with_len a n))
row_all P f a zero h = tt
row_all P f a (suc n) h = (h a (omega arith), row_all P f (a + 1) n (λ i low. h i (omega arith)))

all_joined : {A : Type 0} (P : A → Type 0) (xs ys : List A) → AllByRecursion P xs → AllByRecursion P ys → AllByRecursion P (xs ++ ys)
all_joined P [] ys h k = k
all_joined P (x ∷ xs) ys h k = (h.0, all_joined P xs ys h.1 k)

pub between_all : {A : Type 0} (P : A → Type 0) (f : ℕ → A) (first count : ℕ) (nets : List ℕ) (own : List A) → IsRising first nets → ((i : ℕ) → i + first < count + end_of first nets → P (f i)) → AllByRecursion P own → AllByRecursion P (between f first count nets own)
between_all P f first count [] own h each k = tt
between_all P f first count (n ∷ nets) [] h each k = tt
between_all P f first count (n ∷ nets) (x ∷ own) h each k =
    let low = h.0 in
    let past = rising_end (n + 1) nets h.1 in
    all_joined P (map f (range_with_len count (n - first))) (x ∷ between f (n + 1) (count + (n - first)) nets own)
    (row_all P f count (n - first) (λ i small. each i (omega arith)))
    (k.0, between_all P f (n + 1) (count + (n - first)) nets own h.1 (λ i small. each i (omega arith)) k.1)
