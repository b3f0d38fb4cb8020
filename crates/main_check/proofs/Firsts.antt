-- The first answer along a list.
use Rattle.std.proofs.Common.{◌≡◌, refl, sym, ◌∙◌, ap, subst, ℕ, suc, ◌+◌, ◌<◌, ◌≤◌, List, [], ◌∷◌, length, get_or, drop, Option, Some, None, All, add-one, drop-cons}
use Rattle.std.specs.Option.{option_or}
use Rattle.std.proofs.lemmas.List.{drop_all}

abbrev pub first_some : {A B : Type 0} → (A → Option B) → List A → Option B
first_some f [] = None
first_some f (x ∷ xs) = option_or (f x) (first_some f xs)

module _ {A B : Type 0} (f : A → Option B) (xs : List A) (i : ℕ) where
  one_step : (d : A) → i < length xs → first_some f (drop i xs) ≡ option_or (f (get_or xs i d)) (first_some f (drop (i + 1) xs))
  one_step d h =
      ap (first_some f) (drop-cons xs i d h) ∙ ap (λ (k : ℕ). option_or (f (get_or xs i d)) (first_some f (drop k xs))) (sym (add-one i))

  pub goes_on : (d : A) → i < length xs → f (get_or xs i d) ≡ None → first_some f (drop (i + 1) xs) ≡ first_some f (drop i xs)
  goes_on d h none = sym (one_step d h ∙ ap (λ o. option_or o (first_some f (drop (i + 1) xs))) none)

  pub is_found : (d : A) (b : B) → i < length xs → f (get_or xs i d) ≡ Some b → first_some f (drop i xs) ≡ Some b
  is_found d b h some = one_step d h ∙ ap (λ o. option_or o (first_some f (drop (i + 1) xs))) some

  pub none_left : length xs ≤ i → first_some f (drop i xs) ≡ None
  none_left h = ap (first_some f) (drop_all i xs h)

  pub item_goes_on : (x : A) → i < length xs → x ≡ get_or xs i x → f x ≡ None → first_some f (drop (i + 1) xs) ≡ first_some f (drop i xs)
  item_goes_on x h is none = goes_on x h (ap f (sym is) ∙ none)

  pub item_found : (x : A) (b : B) → i < length xs → x ≡ get_or xs i x → f x ≡ Some b → first_some f (drop i xs) ≡ Some b
  item_found x b h is some = is_found x b h (ap f (sym is) ∙ some)

-- what holds of each item of a list holds of one of them
pub item_has : {A : Type 0} (P : A → Type 0) (xs ys : List A) (i : ℕ) (x : A) → ys ≡ xs → i < length ys → x ≡ get_or ys i x → All P xs → P x
item_has P xs ys i x same h is all = subst P (sym is) (subst (All P) (sym same) all i x h)
