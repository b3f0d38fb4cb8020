-- What stands at places of lists.
use Rattle.std.proofs.Common.{◌≡◌, refl, sym, ◌∙◌, ap, ℕ, zero, suc, ◌<◌, List, [], ◌∷◌, length, map, get_or, Some, slice_get, arith, inl, inr}
use Rattle.source_laws.proofs.Lists.{Among}

pub mapped_place : {A B : Type 0} (f : A → B) (xs : List A) (i : ℕ) (x : A) → i < length xs → x ≡ get_or xs i x → slice_get (map f xs) i ≡ Some (f x)
mapped_place f [] i x h is = absurd (omega (arith, h))
mapped_place f (a ∷ xs) zero x h is = ap (λ z. Some (f z)) (sym is)
mapped_place f (a ∷ xs) (suc i) x h is = mapped_place f xs i x (omega (arith, h)) is

-- what stands at the place of a mapped list
pub is_mapped : {A B : Type 0} (f : A → B) (xs : List A) (i : ℕ) (x : A) (y : B) → i < length xs → x ≡ get_or xs i x → slice_get (map f xs) i ≡ Some y → f x ≡ y
is_mapped f xs i x y h is at = let both : Some (f x) ≡ Some y = sym (mapped_place f xs i x h is) ∙ at in cc both

pub same_there : {A : Type 0} (xs : List A) (i : ℕ) (x y : A) → slice_get xs i ≡ Some x → slice_get xs i ≡ Some y → x ≡ y
same_there xs i x y e f = let both : Some x ≡ Some y = sym e ∙ f in cc both

pub at_place : {A : Type 0} (xs : List A) (x : A) → Among x xs → (i : ℕ) × (slice_get xs i ≡ Some x)
at_place [] x h = absurd h
at_place (y ∷ xs) x (inl e) = (0, ap (λ z. Some z) e)
at_place (y ∷ xs) x (inr h) = let r = at_place xs x h in (suc r.0, r.1)

pub place_among : {A : Type 0} (xs : List A) (i : ℕ) (x : A) → slice_get xs i ≡ Some x → Among x xs
place_among [] i x e = cc e
place_among (y ∷ xs) zero x e = let same : y ≡ x = cc e in inl same
place_among (y ∷ xs) (suc i) x e = inr (place_among xs i x e)

pub some_at : {A : Type 0} (xs : List A) (i : ℕ) → i < length xs → (x : A) × (slice_get xs i ≡ Some x)
some_at [] i h = absurd (omega (arith, h))
some_at (x ∷ xs) zero h = (x, refl)
some_at (x ∷ xs) (suc i) h = some_at xs i (omega (arith, h))
