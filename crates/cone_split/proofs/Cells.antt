-- Lists of numbers: what they contain, and numbers that rise.
use Rattle.std.proofs.Common.{◌≡◌, sym, ◌∙◌, ap, subst, refl, ℕ, zero, suc, ◌+◌, ◌<◌, ◌≤◌, ◌⊎◌, inl, inr, List, [], ◌∷◌, ◌++◌, length, get_or, Contains, arith, Some, slice_get, Ok, Err, Result, MatchResult, IsOk}
use Rattle.std.specs.declared.cmp.Ordering.{Ordering}
use Rattle.std.specs.declared.cmp.Ordering.TheVariants.{Less, Equal, Greater}
use Rattle.std.specs.Ordering.{nat_cmp, match_ordering}
use Rattle.std.specs.Cmp.{nat_cmp_is}
use Rattle.std.specs.BTreeSet.{insert_key}
use Rattle.std.specs.List.{AllByRecursion}
use Rattle.std.proofs.lemmas.Option.{slice_get-get_or, slice_get_within, get_or_from_slice_get}
use Rattle.std.proofs.lemmas.List.{get_or_default}
use Rattle.std.proofs.lemmas.List.Elements.{Contains-push_cases, Contains-push, Contains-append_left}
use Rattle.cone_split.specs.Copies.{Rises, GainsGates}

-- ---- what a list contains

pub contains_head : {X : Type 0} (x : X) (xs : List X) → Contains (x ∷ xs) x
contains_head x xs = (0, omega arith, refl)

pub contains_tail : {X : Type 0} (y x : X) (xs : List X) → Contains xs x → Contains (y ∷ xs) x
contains_tail y x xs c = (suc c.0, let h = c.1 in omega arith, c.2)

pub contains_cases : {X : Type 0} (y x : X) (xs : List X) → Contains (y ∷ xs) x → (y ≡ x) ⊎ Contains xs x
contains_cases y x xs (zero, h, e) = inl e
contains_cases y x xs (suc k, h, e) = inr (k, omega arith, e)

pub contains_at : {X : Type 0} (xs : List X) (i : ℕ) (x : X) → slice_get xs i ≡ Some x → Contains xs x
contains_at xs i x e = (i, slice_get_within xs i x e, get_or_from_slice_get xs i x x e)

pub at_contains : {X : Type 0} (xs : List X) (x : X) → Contains xs x → (i : ℕ) × (slice_get xs i ≡ Some x)
at_contains xs x c = (c.0, slice_get-get_or xs c.0 x c.1 ∙ ap (λ y. Some y) c.2)

pub all_contains : {X : Type 0} (P : X → Type 0) (xs : List X) (x : X) → AllByRecursion P xs → Contains xs x → P x
all_contains P [] x a c = absurd (let h = c.1 in omega arith)
all_contains P (y ∷ xs) x a c = elim (contains_cases y x xs c) [ inl e ↦ subst P e a.0 | inr d ↦ all_contains P xs x a.1 d ]

pub all_from_contains : {X : Type 0} (P : X → Type 0) (xs : List X) → ((x : X) → Contains xs x → P x) → AllByRecursion P xs
all_from_contains P [] f = tt
all_from_contains P (x ∷ xs) f = (f x (contains_head x xs), all_from_contains P xs (λ y c. f y (contains_tail x y xs c)))

-- ---- a key more

pub lt_eq_gt : (a b : ℕ) → (a < b) ⊎ ((a ≡ b) ⊎ (b < a))
lt_eq_gt a b = grind arith

is_less : (a b : ℕ) → a < b → nat_cmp a b ≡ Less
is_less a b h = sym (nat_cmp_is a b Less h)

is_equal : (a b : ℕ) → a ≡ b → nat_cmp a b ≡ Equal
is_equal a b h = sym (nat_cmp_is a b Equal h)

is_greater : (a b : ℕ) → b < a → nat_cmp a b ≡ Greater
is_greater a b h = sym (nat_cmp_is a b Greater h)

pub less_from : (a b : ℕ) → nat_cmp a b ≡ Less → a < b
less_from a b e = elim (lt_eq_gt a b) [ inl h ↦ h | inr (inl h) ↦ (let clash : Less ≡ Equal = sym e ∙ is_equal a b h in cc clash) | inr (inr h) ↦ (let clash : Less ≡ Greater = sym e ∙ is_greater a b h in cc clash) ]

inserted : (x k : ℕ) (xs : List ℕ) (o : Ordering) → nat_cmp k x ≡ o → insert_key nat_cmp (x ∷ xs) k ≡ match_ordering o (k ∷ x ∷ xs) (x ∷ xs) (x ∷ insert_key nat_cmp xs k)
inserted x k xs o e = ap (λ r. match_ordering r (k ∷ x ∷ xs) (x ∷ xs) (x ∷ insert_key nat_cmp xs k)) e

pub insert_kept : (xs : List ℕ) (k q : ℕ) → Contains xs q → Contains (insert_key nat_cmp xs k) q
insert_kept [] k q c = absurd (let h = c.1 in omega arith)
insert_kept (x ∷ xs) k q c = by_order (λ d. insert_kept xs k q d) (nat_cmp k x) refl
  where
    by_order : (Contains xs q → Contains (insert_key nat_cmp xs k) q) → (o : Ordering) → nat_cmp k x ≡ o → Contains (insert_key nat_cmp (x ∷ xs) k) q
    by_order rest Less e = subst (λ (ys : List ℕ). Contains ys q) (sym (inserted x k xs Less e)) (contains_tail k q (x ∷ xs) c)
    by_order rest Equal e = subst (λ (ys : List ℕ). Contains ys q) (sym (inserted x k xs Equal e)) c
    by_order rest Greater e =
        subst (λ (ys : List ℕ). Contains ys q) (sym (inserted x k xs Greater e))
        (elim (contains_cases x q xs c) [ inl h ↦ subst (λ (y : ℕ). Contains (x ∷ insert_key nat_cmp xs k) y) h (contains_head x (insert_key nat_cmp xs k)) | inr d ↦ contains_tail x q (insert_key nat_cmp xs k) (rest d) ])

pub insert_added : (xs : List ℕ) (k : ℕ) → Contains (insert_key nat_cmp xs k) k
insert_added [] k = contains_head k []
insert_added (x ∷ xs) k = elim (lt_eq_gt k x) [
  | inl h ↦ subst (λ (ys : List ℕ). Contains ys k) (sym (inserted x k xs Less (is_less k x h))) (contains_head k (x ∷ xs))
  | inr (inl h) ↦ subst (λ (ys : List ℕ). Contains ys k) (sym (inserted x k xs Equal (is_equal k x h))) (subst (λ (y : ℕ). Contains (x ∷ xs) y) (sym h) (contains_head x xs))
  | inr (inr h) ↦ subst (λ (ys : List ℕ). Contains ys k) (sym (inserted x k xs Greater (is_greater k x h))) (contains_tail x k (insert_key nat_cmp xs k) (insert_added xs k))
]

pub insert_alone : (xs : List ℕ) (k q : ℕ) → Contains (insert_key nat_cmp xs k) q → Contains xs q ⊎ (k ≡ q)
insert_alone [] k q c = elim (contains_cases k q [] c) [ inl e ↦ inr e | inr d ↦ inl d ]
insert_alone (x ∷ xs) k q c = by_order (λ d. insert_alone xs k q d) (nat_cmp k x) refl
  where
    by_order : (Contains (insert_key nat_cmp xs k) q → Contains xs q ⊎ (k ≡ q)) → (o : Ordering) → nat_cmp k x ≡ o → Contains (x ∷ xs) q ⊎ (k ≡ q)
    by_order rest Less e = elim (contains_cases k q (x ∷ xs) (subst (λ (ys : List ℕ). Contains ys q) (inserted x k xs Less e) c)) [ inl h ↦ inr h | inr d ↦ inl d ]
    by_order rest Equal e = inl (subst (λ (ys : List ℕ). Contains ys q) (inserted x k xs Equal e) c)
    by_order rest Greater e = elim (contains_cases x q (insert_key nat_cmp xs k) (subst (λ (ys : List ℕ). Contains ys q) (inserted x k xs Greater e) c)) [
      | inl h ↦ inl (subst (λ (y : ℕ). Contains (x ∷ xs) y) h (contains_head x xs))
      | inr d ↦ elim (rest d) [ inl h ↦ inl (contains_tail x q xs h) | inr h ↦ inr h ]
    ]

-- ---- gates that join the pending ones

pub gains_none : (leaves : ℕ) (ks : List ℕ) → GainsGates leaves ks ks []
gains_none leaves ks = record { kept = λ n c. c; added = λ n c h. absurd (let k = c.1 in omega arith); alone = λ n c. inl c }

pub gains_gate : (leaves : ℕ) (old ks nets : List ℕ) (n : ℕ) → leaves ≤ n → GainsGates leaves old ks nets → GainsGates leaves old (insert_key nat_cmp ks n) (nets ++ n ∷ [])
gains_gate leaves old ks nets n low g = record {
  kept = λ q c. insert_kept ks n q (g.kept q c);
  added = λ q c h. elim (Contains-push_cases nets n q c) [ inl d ↦ insert_kept ks n q (g.added q d h) | inr e ↦ subst (λ (y : ℕ). Contains (insert_key nat_cmp ks n) y) e (insert_added ks n) ];
  alone = λ q c. elim (insert_alone ks n q c) [
    | inl d ↦ elim (g.alone q d) [ inl a ↦ inl a | inr b ↦ inr (Contains-append_left nets (n ∷ []) q b.0, b.1) ]
    | inr e ↦ inr (subst (λ (y : ℕ). Contains (nets ++ n ∷ []) y) e (Contains-push nets n), subst (λ (y : ℕ). leaves ≤ y) e low)
  ];
}

pub gains_leaf : (leaves : ℕ) (old ks nets : List ℕ) (n : ℕ) → n < leaves → GainsGates leaves old ks nets → GainsGates leaves old ks (nets ++ n ∷ [])
gains_leaf leaves old ks nets n low g = record {
  kept = g.kept;
  added = λ q c h. elim (Contains-push_cases nets n q c) [ inl d ↦ g.added q d h | inr e ↦ absurd (omega arith) ];
  alone = λ q c. elim (g.alone q c) [ inl a ↦ inl a | inr b ↦ inr (Contains-append_left nets (n ∷ []) q b.0, b.1) ];
}

-- the same with the new lists given by equations
pub gains_gate_at : (leaves : ℕ) (old ks more nets all : List ℕ) (n : ℕ) → more ≡ insert_key nat_cmp ks n → all ≡ nets ++ n ∷ [] → leaves ≤ n → GainsGates leaves old ks nets → GainsGates leaves old more all
gains_gate_at leaves old ks more nets all n e f low g =
    subst (λ (a : List ℕ). GainsGates leaves old more a) (sym f) (subst (λ (m : List ℕ). GainsGates leaves old m (nets ++ n ∷ [])) (sym e) (gains_gate leaves old ks nets n low g))

pub gains_leaf_at : (leaves : ℕ) (old ks more nets all : List ℕ) (n : ℕ) → more ≡ ks → all ≡ nets ++ n ∷ [] → n < leaves → GainsGates leaves old ks nets → GainsGates leaves old more all
gains_leaf_at leaves old ks more nets all n e f low g =
    subst (λ (a : List ℕ). GainsGates leaves old more a) (sym f) (subst (λ (m : List ℕ). GainsGates leaves old m (nets ++ n ∷ [])) (sym e) (gains_leaf leaves old ks nets n low g))

-- ---- numbers that rise

pub rises_from : (low high : ℕ) (ns : List ℕ) → low ≤ high → Rises high ns → Rises low ns
rises_from low high [] h r = tt
rises_from low high (n ∷ ns) h r = (let a = r.0 in omega arith, r.1)

pub rises_above : (low : ℕ) (ns : List ℕ) (n : ℕ) → Rises low ns → Contains ns n → low ≤ n
rises_above low [] n r c = absurd (let h = c.1 in omega arith)
rises_above low (m ∷ ns) n r c = elim (contains_cases m n ns c) [ inl e ↦ (let a = r.0 in omega arith) | inr d ↦ (let a = r.0 in let b = rises_above (m + 1) ns n r.1 d in omega arith) ]

-- the later of two of them is the greater
pub rises_apart : (low : ℕ) (ns : List ℕ) (i j m n : ℕ) → Rises low ns → i < j → slice_get ns i ≡ Some m → slice_get ns j ≡ Some n → m < n
rises_apart low [] i j m n r h a b = absurd (let k = slice_get_within [] i m a in omega arith)
rises_apart low (x ∷ ns) i zero m n r h a b = absurd (omega arith)
rises_apart low (x ∷ ns) zero (suc j) m n r h a b = let e : x ≡ m = cc a in let k = rises_above (x + 1) ns n r.1 (contains_at ns j n b) in omega arith
rises_apart low (x ∷ ns) (suc i) (suc j) m n r h a b = rises_apart (x + 1) ns i j m n r.1 (omega arith) a b

-- so a lesser one stands earlier
pub rises_order : (low : ℕ) (ns : List ℕ) (i j m n : ℕ) → Rises low ns → slice_get ns i ≡ Some m → slice_get ns j ≡ Some n → m < n → i < j
rises_order low ns i j m n r a b h = elim (lt_eq_gt i j) [
  | inl k ↦ k
  | inr (inl k) ↦ absurd (let same : Some m ≡ Some n = sym a ∙ (ap (λ p. slice_get ns p) k ∙ b) in let e : m ≡ n = cc same in omega arith)
  | inr (inr k) ↦ absurd (let back = rises_apart low ns j i n m r k b a in omega arith)
]

pub rises_weakly : (low : ℕ) (ns : List ℕ) (i j : ℕ) → Rises low ns → i ≤ j → j < length ns → get_or ns i 0 ≤ get_or ns j 0
rises_weakly low ns i j r h k = elim (lt_eq_gt i j) [
  | inl a ↦ (let up = rises_apart low ns i j (get_or ns i 0) (get_or ns j 0) r a (slice_get-get_or ns i 0 (omega arith)) (slice_get-get_or ns j 0 k) in omega arith)
  | inr (inl a) ↦ (let e = ap (λ p. get_or ns p 0) a in omega arith)
  | inr (inr a) ↦ absurd (omega arith)
]

-- a search finds a number that is there
pub found : (xs : List ℕ) (x : ℕ) (r : Result ℕ ℕ) → Contains xs x
    → MatchResult r (λ i. (i < length xs) × (get_or xs i 0 ≡ x)) (λ i. (i ≤ length xs) × ((k : ℕ) → k < i → get_or xs k 0 < x) × ((k : ℕ) → i ≤ k → k < length xs → x < get_or xs k 0))
    → IsOk r
found xs x (Ok i) c m = refl
found xs x (Err i) (k, h, e) m = absurd (elim (lt_eq_gt k i) [
  | inl a ↦ (let b = m.1 k a in let d = get_or_default xs k x 0 h in omega arith)
  | inr (inl a) ↦ (let b = m.2 k (omega arith) h in let d = get_or_default xs k x 0 h in omega arith)
  | inr (inr a) ↦ (let b = m.2 k (omega arith) h in let d = get_or_default xs k x 0 h in omega arith)
])
