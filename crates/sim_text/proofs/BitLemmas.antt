-- What a text of bits gives, element by element.
use Rattle.std.proofs.Common.{◌≡◌, ℕ, ◌+◌, ◌<◌, zero, suc, List, [], ◌∷◌, ◌++◌, length, get_or, take, Option, None, Some, refl, sym, ◌∙◌, ap, arith}
use Rattle.std.proofs.lemmas.List.{take_more}
use Rattle.netlist_spec.specs.Digits.{each_gives}

abbrev joined : {B : Type 0} → Option B → Option (List B) → Option (List B)
joined None r = None
joined (Some y) None = None
joined (Some y) (Some ys) = Some (y ∷ ys)

gives_step : {A B : Type 0} (f : A → Option B) (x : A) (xs : List A) (o : Option B) (r : Option (List B)) → f x ≡ o → each_gives f xs ≡ r → each_gives f (x ∷ xs) ≡ joined o r
gives_step f x xs None r p q = rw p refl
gives_step f x xs (Some y) None p q = rw (p, q) refl
gives_step f x xs (Some y) (Some ys) p q = rw (p, q) refl

joined_none : {B : Type 0} (o : Option B) → joined o None ≡ None
joined_none None = refl
joined_none (Some y) = refl

-- nothing, where nothing is given of one element
pub gives_none : {A B : Type 0} (f : A → Option B) (xs : List A) (i : ℕ) (d : A) → i < length xs → f (get_or xs i d) ≡ None → each_gives f xs ≡ None
gives_none f [] i d inside h = absurd (omega arith)
gives_none f (x ∷ xs) zero d inside h = gives_step f x xs None _ h refl
gives_none f (x ∷ xs) (suc i) d inside h =
    gives_step f x xs (f x) None refl (gives_none f xs i d (omega arith) h) ∙ joined_none (f x)

gives_push : {A B : Type 0} (f : A → Option B) (xs : List A) (x : A) (ys : List B) (y : B) → each_gives f xs ≡ Some ys → f x ≡ Some y → each_gives f (xs ++ x ∷ []) ≡ Some (ys ++ y ∷ [])
gives_push f [] x ys y all here = gives_step f x [] (Some y) (Some []) here refl ∙ ap (λ zs. Some (zs ++ y ∷ [])) none_yet
  where
    none_yet : [] ≡ ys
    none_yet = cc
gives_push {A = A} {B = B} f (w ∷ xs) x ys y all here = at (f w) (each_gives f xs) refl refl (λ vs q. gives_push f xs x vs y q here)
  where
    at : (o : Option B) (r : Option (List B)) → f w ≡ o → each_gives f xs ≡ r → ((vs : List B) → each_gives f xs ≡ Some vs → each_gives f (xs ++ x ∷ []) ≡ Some (vs ++ y ∷ [])) → each_gives f (w ∷ (xs ++ x ∷ [])) ≡ Some (ys ++ y ∷ [])
    at None r p q later = let no = sym all ∙ gives_step f w xs None r p q in cc
    at (Some v) None p q later = let no = sym all ∙ gives_step f w xs (Some v) None p q in cc
    at (Some v) (Some vs) p q later =
        let same : ys ≡ v ∷ vs = let e = sym all ∙ gives_step f w xs (Some v) (Some vs) p q in cc in
        gives_step f w (xs ++ x ∷ []) (Some v) (Some (vs ++ y ∷ [])) p (later vs q) ∙ rw same refl

-- one more element
pub gives_more : {A B : Type 0} (f : A → Option B) (xs : List A) (i : ℕ) (d : A) (ys : List B) (y : B) → i < length xs → each_gives f (take i xs) ≡ Some ys → f (get_or xs i d) ≡ Some y → each_gives f (take (i + 1) xs) ≡ Some (ys ++ y ∷ [])
gives_more f xs i d ys y inside all here =
    ap (each_gives f) (take_more xs i d inside) ∙ gives_push f (take i xs) (get_or xs i d) ys y all here

-- as many values as elements
pub gives_length : {A B : Type 0} (f : A → Option B) (xs : List A) (ys : List B) → each_gives f xs ≡ Some ys → length ys ≡ length xs
gives_length f [] ys all = let e : [] ≡ ys = cc in rw (← e) refl
gives_length {A = A} {B = B} f (x ∷ xs) ys all = at (f x) (each_gives f xs) refl refl (gives_length f xs)
  where
    at : (o : Option B) (r : Option (List B)) → f x ≡ o → each_gives f xs ≡ r → ((vs : List B) → each_gives f xs ≡ Some vs → length vs ≡ length xs) → length ys ≡ length (x ∷ xs)
    at None r p q later = let no = sym all ∙ gives_step f x xs None r p q in cc
    at (Some v) None p q later = let no = sym all ∙ gives_step f x xs (Some v) None p q in cc
    at (Some v) (Some vs) p q later =
        let same : ys ≡ v ∷ vs = let e = sym all ∙ gives_step f x xs (Some v) (Some vs) p q in cc in
        let short = later vs q in
        rw (same, short) refl
