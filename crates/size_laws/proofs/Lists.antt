-- Lists: what they contain, and properties that are decided.
use Rattle.std.proofs.Common.{◌≡◌, sym, ◌∙◌, ap, subst, refl, ℕ, zero, suc, ◌+◌, ◌<◌, ◌⊎◌, inl, inr, Bool, true, false, List, [], ◌∷◌, length, Contains, arith, IsTrue, Some, slice_get}
use Rattle.std.proofs.lemmas.Option.{slice_get-get_or, slice_get_within, get_or_from_slice_get}
use Rattle.netlist_spec.specs.Cones.{AreMarked, marked_sum}
use Rattle.size_laws.specs.Sizes.{Decided}

pub contains_head : {X : Type 0} (x : X) (xs : List X) → Contains (x ∷ xs) x
contains_head x xs = (0, omega arith, refl)

pub contains_tail : {X : Type 0} (y x : X) (xs : List X) → Contains xs x → Contains (y ∷ xs) x
contains_tail y x xs c = (suc c.0, let h = c.1 in omega arith, c.2)

pub contains_cases : {X : Type 0} (y x : X) (xs : List X) → Contains (y ∷ xs) x → (y ≡ x) ⊎ Contains xs x
contains_cases y x xs (zero, h, e) = inl e
contains_cases y x xs (suc k, h, e) = inr (k, omega arith, e)

pub none_there : {X : Type 0} (x : X) → Contains [] x → ⊥
none_there x c = let h = c.1 in omega arith

pub contains_at : {X : Type 0} (xs : List X) (i : ℕ) (x : X) → slice_get xs i ≡ Some x → Contains xs x
contains_at xs i x e = (i, slice_get_within xs i x e, get_or_from_slice_get xs i x x e)

pub at_contains : {X : Type 0} (xs : List X) (x : X) → Contains xs x → (i : ℕ) × (slice_get xs i ≡ Some x)
at_contains xs x c = (c.0, slice_get-get_or xs c.0 x c.1 ∙ ap (λ y. Some y) c.2)

-- ---- decided properties

-- a property that has the same answer
pub same_answer : {P Q : Type 0} → (P → Q) → (Q → P) → Decided P → Decided Q
same_answer f g (inl p) = inl (f p)
same_answer f g (inr never) = inr (λ q. never (g q))

pub both_decided : {P Q : Type 0} → Decided P → Decided Q → Decided (P × Q)
both_decided (inl p) (inl q) = inl (p, q)
both_decided (inl p) (inr never) = inr (λ h. never h.1)
both_decided (inr never) d = inr (λ h. never h.0)

pub true_decided : (b : Bool) → Decided (IsTrue b)
true_decided true = inl refl
true_decided false = inr (λ e. let clash : false ≡ true = e in cc clash)

-- whether some element of a list has a decided property
pub some_decided : {A : Type 0} (P : A → Type 0) → ((x : A) → Decided (P x)) → (xs : List A) → Decided ((x : A) × Contains xs x × P x)
some_decided P d [] = inr (λ h. none_there h.0 h.1)
some_decided {A = A} P d (x ∷ xs) = by_case (d x) (some_decided P d xs)
  where
    by_case : Decided (P x) → Decided ((y : A) × Contains xs y × P y) → Decided ((y : A) × Contains (x ∷ xs) y × P y)
    by_case (inl p) later = inl (x, contains_head x xs, p)
    by_case (inr never) (inl (y, c, p)) = inl (y, contains_tail x y xs c, p)
    by_case (inr never) (inr none) = inr (λ h. elim (contains_cases x h.0 xs h.1) [ inl e ↦ never (subst P (sym e) h.2) | inr c ↦ none (h.0, c, h.2) ])

-- ---- marks

-- a decided property marks the elements that have it
pub marks_for : {A : Type 0} (P : A → Type 0) → ((x : A) → Decided (P x)) → (xs : List A) → (marks : List Bool) × AreMarked P xs marks
marks_for P d [] = ([], tt)
marks_for {A = A} P d (x ∷ xs) = by_case (d x) (marks_for P d xs)
  where
    by_case : Decided (P x) → (marks : List Bool) × AreMarked P xs marks → (marks : List Bool) × AreMarked P (x ∷ xs) marks
    by_case (inl p) (marks, are) = (true ∷ marks, ((λ e. p, λ q. refl), are))
    by_case (inr never) (marks, are) = (false ∷ marks, ((λ e. let clash : false ≡ true = e in cc clash, λ q. absurd (never q)), are))

-- two lists of marks for one property have one sum
pub one_sum : {A : Type 0} (P : A → Type 0) (f : A → ℕ) (xs : List A) (ms ks : List Bool) → AreMarked P xs ms → AreMarked P xs ks → marked_sum f xs ms ≡ marked_sum f xs ks
one_sum P f [] ms ks a b = refl
one_sum P f (x ∷ xs) [] ks a b = absurd a
one_sum P f (x ∷ xs) (m ∷ ms) [] a b = absurd b
one_sum P f (x ∷ xs) (true ∷ ms) (true ∷ ks) a b = ap (λ (n : ℕ). f x + n) (one_sum P f xs ms ks a.1 b.1)
one_sum P f (x ∷ xs) (false ∷ ms) (false ∷ ks) a b = ap (λ (n : ℕ). 0 + n) (one_sum P f xs ms ks a.1 b.1)
one_sum P f (x ∷ xs) (true ∷ ms) (false ∷ ks) a b = let clash : false ≡ true = b.0.1 (a.0.0 refl) in cc clash
one_sum P f (x ∷ xs) (false ∷ ms) (true ∷ ks) a b = let clash : false ≡ true = a.0.1 (b.0.0 refl) in cc clash

-- ---- numbers of elements

pub contains_decided : {A : Type 0} → ((a b : A) → Decided (a ≡ b)) → (xs : List A) (x : A) → Decided (Contains xs x)
contains_decided {A = A} same xs x =
    same_answer (λ h. subst (λ (y : A). Contains xs y) h.2 h.1) (λ c. (x, c, refl)) (some_decided (λ y. y ≡ x) (λ y. same y x) xs)

pub numbers_decided : (a b : ℕ) → Decided (a ≡ b)
numbers_decided a b = grind arith

-- a number below the length has an element
pub element_at : {A : Type 0} (xs : List A) (i : ℕ) → i < length xs → (x : A) × (slice_get xs i ≡ Some x)
element_at [] i h = absurd (omega arith)
element_at (x ∷ xs) zero h = (x, refl)
element_at (x ∷ xs) (suc i) h = element_at xs i (omega arith)

pub one_element : {A : Type 0} (xs : List A) (i : ℕ) (x y : A) → slice_get xs i ≡ Some x → slice_get xs i ≡ Some y → x ≡ y
one_element xs i x y e f = let same : Some x ≡ Some y = sym e ∙ f in cc same
