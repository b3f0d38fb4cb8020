-- Tests over lists that compute, and what they tell.
use Rattle.std.proofs.Common.{◌≡◌, refl, sym, ap, subst, ℕ, zero, suc, ◌+◌, ◌<◌, ◌≤◌, List, [], ◌∷◌, Bool, true, false, not, ◌&&◌, ◌||◌, ◌⊎◌, inl, inr, arith, Contains}
use Rattle.std.proofs.lemmas.List.Elements.{All-from_recursion}
use Rattle.std.specs.List.{AllByRecursion, list_all, list_any, range_with_len}

pub both : (a b : Bool) → (a && b) ≡ true → (a ≡ true) × (b ≡ true)
both true b h = (refl, h)
both false b h = cc h

pub either : (a b : Bool) → (a || b) ≡ true → (a ≡ true) ⊎ (b ≡ true)
either true b h = inl refl
either false b h = inr h

pub implies : (a b : Bool) → (not a || b) ≡ true → a ≡ true → b ≡ true
implies true b h e = h
implies false b h e = cc e

pub any_element : {A : Type 0} (p : A → Bool) (xs : List A) → list_any p xs ≡ true → (x : A) × Contains xs x × (p x ≡ true)
any_element p [] h = cc h
any_element {A = A} p (x ∷ xs) h = by_case (any_element p xs) (either (p x) (list_any p xs) h)
  where
    by_case : (list_any p xs ≡ true → (y : A) × Contains xs y × (p y ≡ true)) → (p x ≡ true) ⊎ (list_any p xs ≡ true) → (y : A) × Contains (x ∷ xs) y × (p y ≡ true)
    by_case later (inl e) = (x, (0, omega arith, refl), e)
    by_case later (inr e) = let (y, (k, inside, at), f) = later e in (y, (suc k, omega arith, at), f)

pub any_from : {A : Type 0} (p : A → Bool) (xs : List A) (x : A) → Contains xs x → p x ≡ true → list_any p xs ≡ true
any_from p [] x (k, inside, e) h = absurd (omega arith)
any_from p (y ∷ ys) x (zero, inside, e) h = ap (λ (b : Bool). b || list_any p ys) (subst (λ z. p z ≡ true) (sym e) h)
any_from p (y ∷ ys) x (suc k, inside, e) h = or_true (p y) (any_from p ys x (k, omega arith, e) h)
  where
    or_true : (a : Bool) {b : Bool} → b ≡ true → (a || b) ≡ true
    or_true true e = refl
    or_true false e = e

pub all_elements : {A : Type 0} (p : A → Bool) (xs : List A) → list_all p xs ≡ true → AllByRecursion (λ x. p x ≡ true) xs
all_elements p [] h = tt
all_elements p (x ∷ xs) h = let (a, b) = both (p x) (list_all p xs) h in (a, all_elements p xs b)

pub all_at : {A : Type 0} (p : A → Bool) (xs : List A) → list_all p xs ≡ true → (x : A) → Contains xs x → p x ≡ true
all_at p xs h x (k, inside, e) = subst (λ y. p y ≡ true) e (All-from_recursion (λ x. p x ≡ true) xs (all_elements p xs h) k x inside)

pub all_below : (p : ℕ → Bool) (a n : ℕ) → list_all p (range_with_len a n) ≡ true → (k : ℕ) → a ≤ k → k < a + n → p k ≡ true
all_below p a zero h k low high = absurd (omega arith)
all_below p a (suc n) h k low high = let (x, y) = both (p a) (list_all p (range_with_len (a + 1) n)) h in by_case (all_below p (a + 1) n y k) (order a k) x
  where
    order : (a k : ℕ) → (a ≡ k) ⊎ (a < k ⊎ k < a)
    order a k = grind arith

    by_case : (a + 1 ≤ k → k < (a + 1) + n → p k ≡ true) → (a ≡ k) ⊎ (a < k ⊎ k < a) → p a ≡ true → p k ≡ true
    by_case later (inl e) x = subst (λ j. p j ≡ true) e x
    by_case later (inr (inl less)) x = later (omega arith) (omega arith)
    by_case later (inr (inr more)) x = absurd (omega arith)
