-- What a function gives of each element of a list.
use Rattle.std.proofs.Common.{◌≡◌, ℕ, ◌+◌, ◌<◌, zero, suc, List, [], ◌∷◌, ◌++◌, length, get_or, take, map, Option, None, Some, refl, sym, subst, ◌∙◌, ap, ◌≤◌, arith}
use Rattle.std.specs.Prelude.{is_some, ◌&&◌}
use Rattle.std.specs.List.{list_all, AllByRecursion}
use Rattle.std.proofs.lemmas.List.{take_more, take_all}
use Rattle.netlist_spec.specs.Digits.{each_gives}
use Rattle.toml.specs.Data.{Data}
use Rattle.toml.specs.View.{view}
use Rattle.toml.specs.declared.value.Value.{Value}

abbrev pub joined : {B : Type 0} → Option B → Option (List B) → Option (List B)
joined None r = None
joined (Some y) None = None
joined (Some y) (Some ys) = Some (y ∷ ys)

pub gives_step : {A B : Type 0} (f : A → Option B) (x : A) (xs : List A) (o : Option B) (r : Option (List B)) → f x ≡ o → each_gives f xs ≡ r → each_gives f (x ∷ xs) ≡ joined o r
gives_step f x xs None r p q = rw p refl
gives_step f x xs (Some y) None p q = rw (p, q) refl
gives_step f x xs (Some y) (Some ys) p q = rw (p, q) refl

pub gives_map : {A B C : Type 0} (g : A → B) (f : B → Option C) (xs : List A) → each_gives f (map g xs) ≡ each_gives (λ x. f (g x)) xs
gives_map g f [] = refl
gives_map g f (x ∷ xs) =
    gives_step f (g x) (map g xs) (f (g x)) (each_gives (λ y. f (g y)) xs) refl (gives_map g f xs)
    ∙ sym (gives_step (λ y. f (g y)) x xs (f (g x)) (each_gives (λ y. f (g y)) xs) refl refl)

pub joined_none : {B : Type 0} (o : Option B) → joined o None ≡ None
joined_none None = refl
joined_none (Some y) = refl

-- nothing, where nothing is given of one element
pub gives_none : {A B : Type 0} (f : A → Option B) (xs : List A) (i : ℕ) (d : A) → i < length xs → f (get_or xs i d) ≡ None → each_gives f xs ≡ None
gives_none f [] i d inside h = absurd (omega arith)
gives_none f (x ∷ xs) zero d inside h = gives_step f x xs None _ h refl
gives_none f (x ∷ xs) (suc i) d inside h =
    gives_step f x xs (f x) None refl (gives_none f xs i d (omega arith) h) ∙ joined_none (f x)

gives_push : {A B : Type 0} (f : A → Option B) (xs : List A) (x : A) (ys : List B) (y : B) → each_gives f xs ≡ Some ys → f x ≡ Some y → each_gives f (xs ++ x ∷ []) ≡ Some (ys ++ y ∷ [])
gives_push f [] x ys y all here = gives_step f x [] (Some y) (Some []) here refl ∙ ap (λ zs. Some (zs ++ y ∷ [])) none_yet
  where
    none_yet : [] ≡ ys
    none_yet = cc
gives_push {A = A} {B = B} f (w ∷ xs) x ys y all here = at (f w) (each_gives f xs) refl refl (λ vs q. gives_push f xs x vs y q here)
  where
    at : (o : Option B) (r : Option (List B)) → f w ≡ o → each_gives f xs ≡ r → ((vs : List B) → each_gives f xs ≡ Some vs → each_gives f (xs ++ x ∷ []) ≡ Some (vs ++ y ∷ [])) → each_gives f (w ∷ (xs ++ x ∷ [])) ≡ Some (ys ++ y ∷ [])
    at None r p q later = let no = sym all ∙ gives_step f w xs None r p q in cc
    at (Some v) None p q later = let no = sym all ∙ gives_step f w xs (Some v) None p q in cc
    at (Some v) (Some vs) p q later =
        let same : ys ≡ v ∷ vs = let e = sym all ∙ gives_step f w xs (Some v) (Some vs) p q in cc in
        gives_step f w (xs ++ x ∷ []) (Some v) (Some (vs ++ y ∷ [])) p (later vs q) ∙ rw same refl

-- one more element
pub gives_more : {A B : Type 0} (f : A → Option B) (xs : List A) (i : ℕ) (d : A) (ys : List B) (y : B) → i < length xs → each_gives f (take i xs) ≡ Some ys → f (get_or xs i d) ≡ Some y → each_gives f (take (i + 1) xs) ≡ Some (ys ++ y ∷ [])
gives_more f xs i d ys y inside all here =
    ap (each_gives f) (take_more xs i d inside) ∙ gives_push f (take i xs) (get_or xs i d) ys y all here

some_joined : {B : Type 0} (o : Option B) (r : Option (List B)) → is_some (joined o r) ≡ (is_some o && is_some r)
some_joined None r = refl
some_joined (Some y) None = refl
some_joined (Some y) (Some ys) = refl

pub gives_some : {A B : Type 0} (f : A → Option B) (xs : List A) → is_some (each_gives f xs) ≡ list_all (λ x. is_some (f x)) xs
gives_some f [] = refl
gives_some f (x ∷ xs) =
    ap is_some (gives_step f x xs (f x) (each_gives f xs) refl refl)
    ∙ (some_joined (f x) (each_gives f xs) ∙ ap (λ b. is_some (f x) && b) (gives_some f xs))

pub gives_length : {A B : Type 0} (f : A → Option B) (xs : List A) (ys : List B) → each_gives f xs ≡ Some ys → length ys ≡ length xs
gives_length f [] ys all = let e : [] ≡ ys = cc in rw (← e) refl
gives_length {A = A} {B = B} f (x ∷ xs) ys all = at (f x) (each_gives f xs) refl refl (gives_length f xs)
  where
    at : (o : Option B) (r : Option (List B)) → f x ≡ o → each_gives f xs ≡ r → ((vs : List B) → each_gives f xs ≡ Some vs → length vs ≡ length xs) → length ys ≡ length (x ∷ xs)
    at None r p q later = let no = sym all ∙ gives_step f x xs None r p q in cc
    at (Some v) None p q later = let no = sym all ∙ gives_step f x xs (Some v) None p q in cc
    at (Some v) (Some vs) p q later =
        let same : ys ≡ v ∷ vs = let e = sym all ∙ gives_step f x xs (Some v) (Some vs) p q in cc in
        let short = later vs q in
        rw (same, short) refl

-- what holds of each value that is given
pub gives_each : {A B : Type 0} (f : A → Option B) (P : B → Type 0) → ((x : A) (y : B) → f x ≡ Some y → P y) → (xs : List A) (ys : List B) → each_gives f xs ≡ Some ys → AllByRecursion P ys
gives_each f P holds [] ys all = let e : [] ≡ ys = cc in rw (← e) tt
gives_each {A = A} {B = B} f P holds (x ∷ xs) ys all = at (f x) (each_gives f xs) refl refl (gives_each f P holds xs)
  where
    at : (o : Option B) (r : Option (List B)) → f x ≡ o → each_gives f xs ≡ r → ((vs : List B) → each_gives f xs ≡ Some vs → AllByRecursion P vs) → AllByRecursion P ys
    at None r p q later = let no = sym all ∙ gives_step f x xs None r p q in cc
    at (Some v) None p q later = let no = sym all ∙ gives_step f x xs (Some v) None p q in cc
    at (Some v) (Some vs) p q later =
        let same : ys ≡ v ∷ vs = let e = sym all ∙ gives_step f x xs (Some v) (Some vs) p q in cc in
        rw same (holds x v p, later vs q)

-- ---- in a loop over values

module _ {B : Type 0} (f : Data → Option B) (vs : List Value) where
  pub values_none : (i : ℕ) (v : Value) → i < length vs → v ≡ get_or vs i v → f (view v) ≡ None → each_gives f (map view vs) ≡ None
  values_none i v inside here none = gives_map view f vs ∙ gives_none (λ (w : Value). f (view w)) vs i v inside (subst (λ (w : Value). f (view w) ≡ None) here none)

  pub values_more : (i : ℕ) (v : Value) (ys : List B) (y : B) → i < length vs → v ≡ get_or vs i v → each_gives (λ (w : Value). f (view w)) (take i vs) ≡ Some ys → f (view v) ≡ Some y → each_gives (λ (w : Value). f (view w)) (take (i + 1) vs) ≡ Some (ys ++ y ∷ [])
  values_more i v ys y inside here all some = gives_more (λ (w : Value). f (view w)) vs i v ys y inside all (subst (λ (w : Value). f (view w) ≡ Some y) here some)

  pub values_all : (i : ℕ) (ys : List B) → length vs ≤ i → each_gives (λ (w : Value). f (view w)) (take i vs) ≡ Some ys → each_gives f (map view vs) ≡ Some ys
  values_all i ys past all = gives_map view f vs ∙ (ap (each_gives (λ (w : Value). f (view w))) (sym (take_all i vs past)) ∙ all)
