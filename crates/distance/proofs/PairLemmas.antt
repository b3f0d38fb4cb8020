-- Facts of all elements, of all pairs and of membership, by recursion on the list.
use Rattle.std.proofs.Common.{◌≡◌, ap, subst, zero, suc, List, [], ◌∷◌, ◌++◌, map, Contains, ◌⊎◌, inl, inr, arith, zero-lt-suc}
use Rattle.std.specs.List.{AllByRecursion, AllPairs}
use Rattle.std.proofs.lemmas.List.Elements.{All-from_recursion, recursion_from_All}
use Rattle.std.proofs.lemmas.List.Kept.{AllPairs-cons}

pub every_weaken : {X : Type 0} (P Q : X → Type 0) → ((x : X) → P x → Q x) → (xs : List X) → AllByRecursion P xs → AllByRecursion Q xs
every_weaken P Q f [] h = tt
every_weaken P Q f (x ∷ xs) h = (f x h.0, every_weaken P Q f xs h.1)

pub every_append : {X : Type 0} (P : X → Type 0) → (xs ys : List X) → AllByRecursion P xs → AllByRecursion P ys → AllByRecursion P (xs ++ ys)
every_append P [] ys h k = k
every_append P (x ∷ xs) ys h k = (h.0, every_append P xs ys h.1 k)

pub every_map : {X Y : Type 0} (f : X → Y) (P : X → Type 0) (Q : Y → Type 0) → ((x : X) → P x → Q (f x)) → (xs : List X) → AllByRecursion P xs → AllByRecursion Q (map f xs)
every_map f P Q k [] h = tt
every_map f P Q k (x ∷ xs) h = (k x h.0, every_map f P Q k xs h.1)

-- R holds of each element and each later one
abbrev pub Pairs : {X : Type 0} → (X → X → Type 0) → List X → Type 0
Pairs R [] = Unit {0}
Pairs R (x ∷ xs) = AllByRecursion (R x) xs × Pairs R xs

pub pairs_append : {X : Type 0} (R : X → X → Type 0) → (xs ys : List X) → Pairs R xs → Pairs R ys → AllByRecursion (λ x. AllByRecursion (R x) ys) xs → Pairs R (xs ++ ys)
pairs_append R [] ys h k across = k
pairs_append R (x ∷ xs) ys h k across = (every_append (R x) xs ys h.0 across.0, pairs_append R xs ys h.1 k across.1)

-- of elements that are all P
pub pairs_map : {X Y : Type 0} (f : X → Y) (P : X → Type 0) (R : X → X → Type 0) (S : Y → Y → Type 0) → ((x y : X) → P x → P y → R x y → S (f x) (f y)) → (xs : List X) → AllByRecursion P xs → Pairs R xs → Pairs S (map f xs)
pairs_map f P R S k [] every h = tt
pairs_map {X} f P R S k (x ∷ xs) every h = (later xs every.1 h.0, pairs_map f P R S k xs every.1 h.1)
  where
    later : (ys : List X) → AllByRecursion P ys → AllByRecursion (R x) ys → AllByRecursion (S (f x)) (map f ys)
    later [] e r = tt
    later (y ∷ ys) e r = (k x y every.0 e.0 r.0, later ys e.1 r.1)

pub pairs_from : {X : Type 0} (R : X → X → Type 0) → (xs : List X) → AllPairs R xs → Pairs R xs
pairs_from R [] h = tt
pairs_from R (x ∷ xs) h =
    (recursion_from_All (R x) xs (λ k d below. h 0 (suc k) d (omega arith) (omega arith)), pairs_from R xs (λ i j d before below. h (suc i) (suc j) d (omega arith) (omega arith)))

pub pairs_to : {X : Type 0} (R : X → X → Type 0) → (xs : List X) → Pairs R xs → AllPairs R xs
pairs_to R [] h = λ i j d before below. absurd (omega arith)
pairs_to R (x ∷ xs) h = AllPairs-cons R x xs (All-from_recursion (R x) xs h.0) (pairs_to R xs h.1)

-- x is an element
abbrev pub In : {X : Type 0} → List X → X → Type 0
In [] x = ⊥
In (y ∷ ys) x = (y ≡ x) ⊎ In ys x

pub in_left : {X : Type 0} → (xs ys : List X) (x : X) → In xs x → In (xs ++ ys) x
in_left [] ys x h = absurd h
in_left (y ∷ xs) ys x (inl e) = inl e
in_left (y ∷ xs) ys x (inr h) = inr (in_left xs ys x h)

pub in_right : {X : Type 0} → (xs ys : List X) (x : X) → In ys x → In (xs ++ ys) x
in_right [] ys x h = h
in_right (y ∷ xs) ys x h = inr (in_right xs ys x h)

pub in_map : {X Y : Type 0} (f : X → Y) → (xs : List X) (x : X) → In xs x → In (map f xs) (f x)
in_map f [] x h = absurd h
in_map f (y ∷ xs) x (inl e) = inl (ap f e)
in_map f (y ∷ xs) x (inr h) = inr (in_map f xs x h)

pub every_in : {X : Type 0} (P : X → Type 0) → (xs : List X) (x : X) → AllByRecursion P xs → In xs x → P x
every_in P [] x h k = absurd k
every_in P (y ∷ xs) x h (inl e) = subst P e h.0
every_in P (y ∷ xs) x h (inr k) = every_in P xs x h.1 k

pub in_to : {X : Type 0} → (xs : List X) (x : X) → In xs x → Contains xs x
in_to [] x h = absurd h
in_to (y ∷ xs) x (inl e) = (0, zero-lt-suc _, e)
in_to (y ∷ xs) x (inr h) = let (k, below, is) = in_to xs x h in (suc k, omega arith, is)

pub in_from : {X : Type 0} → (xs : List X) (x : X) → Contains xs x → In xs x
in_from [] x (k, below, is) = absurd (omega arith)
in_from (y ∷ xs) x (zero, below, is) = inl is
in_from (y ∷ xs) x (suc k, below, is) = inr (in_from xs x (k, omega arith, is))
