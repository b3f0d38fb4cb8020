-- Elements of lists, and names that stand in them.
use Rattle.std.proofs.Common.{◌≡◌, refl, sym, ◌∙◌, ap, subst, zero, suc, ◌<◌, ◌≤◌, List, [], ◌∷◌, ◌++◌, length, map, filter, Bool, true, false, ◌&&◌, ◌||◌, not, cond, ◌⊎◌, inl, inr, arith, Contains}
use Rattle.std.specs.List.{AllByRecursion, flat_map}
use Rattle.std.specs.Cmp.Lexicographic.{bytes_decides}
use Rattle.netlist_spec.specs.Netlist.{Name, same_name, stands_in}

-- an element of a list, by recursion
abbrev pub Among : {A : Type 0} → A → List A → Type 0
Among x [] = ⊥
Among x (y ∷ ys) = (y ≡ x) ⊎ Among x ys

pub among : {A : Type 0} (xs : List A) (x : A) → Contains xs x → Among x xs
among [] x (k, inside, e) = absurd (omega arith)
among (y ∷ ys) x (zero, inside, e) = inl e
among (y ∷ ys) x (suc k, inside, e) = inr (among ys x (k, omega arith, e))

pub contained : {A : Type 0} (xs : List A) (x : A) → Among x xs → Contains xs x
contained [] x h = absurd h
contained (y ∷ ys) x (inl e) = (0, omega arith, e)
contained (y ∷ ys) x (inr h) = let (k, inside, e) = contained ys x h in (suc k, omega arith, e)

pub all_among : {A : Type 0} (P : A → Type 0) (xs : List A) → AllByRecursion P xs → (x : A) → Among x xs → P x
all_among P [] a x h = absurd h
all_among P (y ∷ ys) a x (inl e) = subst P e a.0
all_among P (y ∷ ys) a x (inr h) = all_among P ys a.1 x h

pub among_all : {A : Type 0} (P : A → Type 0) (xs : List A) → ((x : A) → Among x xs → P x) → AllByRecursion P xs
among_all P [] f = tt
among_all P (x ∷ xs) f = (f x (inl refl), among_all P xs (λ y h. f y (inr h)))

pub among_map : {A B : Type 0} (f : A → B) (xs : List A) (x : A) → Among x xs → Among (f x) (map f xs)
among_map f [] x h = absurd h
among_map f (y ∷ ys) x (inl e) = inl (ap f e)
among_map f (y ∷ ys) x (inr h) = inr (among_map f ys x h)

pub map_among : {A B : Type 0} (f : A → B) (xs : List A) (y : B) → Among y (map f xs) → (x : A) × Among x xs × (f x ≡ y)
map_among f [] y h = absurd h
map_among f (x ∷ xs) y (inl e) = (x, inl refl, e)
map_among f (x ∷ xs) y (inr h) = let (z, a, e) = map_among f xs y h in (z, inr a, e)

pub among_front : {A : Type 0} (xs ys : List A) (x : A) → Among x xs → Among x (xs ++ ys)
among_front [] ys x h = absurd h
among_front (z ∷ xs) ys x (inl e) = inl e
among_front (z ∷ xs) ys x (inr h) = inr (among_front xs ys x h)

pub among_back : {A : Type 0} (xs ys : List A) (x : A) → Among x ys → Among x (xs ++ ys)
among_back [] ys x h = h
among_back (z ∷ xs) ys x h = inr (among_back xs ys x h)

pub among_either : {A : Type 0} (xs ys : List A) (x : A) → Among x (xs ++ ys) → Among x xs ⊎ Among x ys
among_either [] ys x h = inr h
among_either (z ∷ xs) ys x (inl e) = inl (inl e)
among_either (z ∷ xs) ys x (inr h) = elim (among_either xs ys x h) [ inl a ↦ inl (inr a) | inr b ↦ inr b ]

pub among_flat : {A B : Type 0} (f : A → List B) (xs : List A) (x : A) (y : B) → Among x xs → Among y (f x) → Among y (flat_map f xs)
among_flat f [] x y h k = absurd h
among_flat f (z ∷ xs) x y (inl e) k = among_front (f z) (flat_map f xs) y (subst (λ w. Among y (f w)) (sym e) k)
among_flat f (z ∷ xs) x y (inr h) k = among_back (f z) (flat_map f xs) y (among_flat f xs x y h k)

pub flat_among : {A B : Type 0} (f : A → List B) (xs : List A) (y : B) → Among y (flat_map f xs) → (x : A) × Among x xs × Among y (f x)
flat_among f [] y h = absurd h
flat_among f (x ∷ xs) y h =
    elim (among_either (f x) (flat_map f xs) y h) [
      | inl a ↦ (x, inl refl, a)
      | inr b ↦ let (z, c, d) = flat_among f xs y b in (z, inr c, d)
    ]

pub among_filter : {A : Type 0} (p : A → Bool) (xs : List A) (x : A) → Among x xs → p x ≡ true → Among x (filter p xs)
among_filter p [] x h t = absurd h
among_filter {A = A} p (y ∷ ys) x h t = by_case (p y) refl h (λ k. among_filter p ys x k t)
  where
    by_case : (b : Bool) → p y ≡ b → (y ≡ x) ⊎ Among x ys → (Among x ys → Among x (filter p ys)) → Among x (cond b (y ∷ filter p ys) (filter p ys))
    by_case true e (inl q) f = inl q
    by_case true e (inr k) f = inr (f k)
    by_case false e (inl q) f = let d : p x ≡ false = ap p (sym q) ∙ e in cc (t, d)
    by_case false e (inr k) f = f k

pub filter_among : {A : Type 0} (p : A → Bool) (xs : List A) (x : A) → Among x (filter p xs) → Among x xs × (p x ≡ true)
filter_among p [] x h = absurd h
filter_among {A = A} p (y ∷ ys) x h = by_case (p y) refl h (filter_among p ys x)
  where
    by_case : (b : Bool) → p y ≡ b → Among x (cond b (y ∷ filter p ys) (filter p ys)) → (Among x (filter p ys) → Among x ys × (p x ≡ true)) → ((y ≡ x) ⊎ Among x ys) × (p x ≡ true)
    by_case true e (inl q) f = (inl q, ap p (sym q) ∙ e)
    by_case true e (inr k) f = let r = f k in (inr r.0, r.1)
    by_case false e k f = let r = f k in (inr r.0, r.1)

-- ---- names

pub same_self : (n : Name) → same_name n n ≡ true
same_self n = (bytes_decides n n).1 refl

pub stands : (n : Name) (ns : List Name) → Among n ns → stands_in n ns ≡ true
stands n [] h = absurd h
stands n (k ∷ ks) (inl e) = ap (λ (b : Bool). b || stands_in n ks) ((bytes_decides n k).1 (sym e))
stands n (k ∷ ks) (inr h) = or_true (same_name n k) (stands n ks h)
  where
    or_true : (a : Bool) {b : Bool} → b ≡ true → (a || b) ≡ true
    or_true true e = refl
    or_true false e = e

pub standing : (n : Name) (ns : List Name) → stands_in n ns ≡ true → Among n ns
standing n [] h = cc h
standing n (k ∷ ks) h = by_case (same_name n k) refl h (standing n ks)
  where
    by_case : (b : Bool) → same_name n k ≡ b → (b || stands_in n ks) ≡ true → (stands_in n ks ≡ true → Among n ks) → (k ≡ n) ⊎ Among n ks
    by_case true e h f = inl (sym ((bytes_decides n k).0 e))
    by_case false e h f = inr (f h)

-- a list without the elements of one name
abbrev pub without : Name → List Name → List Name
without k ns = filter (λ n. not (same_name k n)) ns

pub without_keeps : (k n : Name) (ns : List Name) → same_name k n ≡ false → Among n ns → Among n (without k ns)
without_keeps k n ns e h = among_filter (λ n. not (same_name k n)) ns n h (ap not e)

not_longer : (k : Name) (ns : List Name) → length (without k ns) ≤ length ns
not_longer k [] = omega arith
not_longer k (n ∷ ns) = by_case (same_name k n) (not_longer k ns)
  where
    by_case : (b : Bool) → length (without k ns) ≤ length ns → length (cond (not b) (n ∷ without k ns) (without k ns)) ≤ length (n ∷ ns)
    by_case true h = omega arith
    by_case false h = omega arith

pub shorter : (k : Name) (ns : List Name) → Among k ns → length (without k ns) < length ns
shorter k [] h = absurd h
shorter k (n ∷ ns) h = by_case (same_name k n) refl h (shorter k ns) (not_longer k ns)
  where
    by_case : (b : Bool) → same_name k n ≡ b → (n ≡ k) ⊎ Among k ns → (Among k ns → length (without k ns) < length ns) → length (without k ns) ≤ length ns
        → length (cond (not b) (n ∷ without k ns) (without k ns)) < length (n ∷ ns)
    by_case true e h f g = omega arith
    by_case false e (inl q) f g = absurd (let d : same_name k n ≡ true = (bytes_decides k n).1 (sym q) in cc (e, d))
    by_case false e (inr a) f g = let less = f a in omega arith

-- the first test fails and the second holds
-- distinct names of a list are no more than it has
pub both : (a b : Bool) → (not a && b) ≡ true → (a ≡ false) × (b ≡ true)
both true b h = cc h
both false b h = (refl, h)
