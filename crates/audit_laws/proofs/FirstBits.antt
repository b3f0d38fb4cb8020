-- The first two bits are kept.
use Rattle.std.proofs.Common.{◌≡◌, refl, sym, ◌∙◌, ap, subst, ℕ, zero, suc, ◌+◌, ◌<◌, ◌≤◌, List, [], ◌∷◌, ◌++◌, length, Bool, true, false, ◌&&◌, cond, ◌⊎◌, inl, inr, Some, nat_lt, arith}
use Rattle.std.specs.Prelude.{IsTrue, slice_get}
use Rattle.std.specs.Cmp.Lexicographic.{bytes_decides}
use Rattle.netlist_spec.specs.Netlist.{Name, same_name, Model}
use Rattle.netlist_spec.specs.Models.{latch_outputs, latch_inputs, output_nets}
use Rattle.netlist_spec.specs.CellBits.{Bit, latch_bit, output_bit, stands_before, IsLatchBit}
use Rattle.audit_laws.specs.FirstBits.{FirstBits, no_bit, one_bit, two_bits, AreFirstBits, AreInBitOrder, with_bit, merged, named_bits, IsOwnBit, own_bits, latch_bits}

-- ---- the order of bits

is_less : (i j : ℕ) → nat_lt i j ≡ true → i < j
is_less i j h = grind arith

is_not_less : (i j : ℕ) → nat_lt i j ≡ false → j ≤ i
is_not_less i j h = grind arith

less_is : (i j : ℕ) → i < j → nat_lt i j ≡ true
less_is i j h = grind arith

pub not_itself : (a : Bit) → stands_before a a ≡ true → ⊥
not_itself (latch_bit i) h = let e = is_less i i h in absurd (omega arith)
not_itself (output_bit i) h = let e = is_less i i h in absurd (omega arith)

pub goes_on : (a b c : Bit) → stands_before a b ≡ true → stands_before b c ≡ true → stands_before a c ≡ true
goes_on (latch_bit i) (latch_bit j) (latch_bit k) h g = let a = is_less i j h in let b = is_less j k g in less_is i k (omega arith)
goes_on (latch_bit i) (latch_bit j) (output_bit k) h g = refl
goes_on (latch_bit i) (output_bit j) (latch_bit k) h g = cc g
goes_on (latch_bit i) (output_bit j) (output_bit k) h g = refl
goes_on (output_bit i) (latch_bit j) c h g = cc h
goes_on (output_bit i) (output_bit j) (latch_bit k) h g = cc g
goes_on (output_bit i) (output_bit j) (output_bit k) h g = let a = is_less i j h in let b = is_less j k g in less_is i k (omega arith)

pub same_place : (a b : Bit) → stands_before a b ≡ false → stands_before b a ≡ false → a ≡ b
same_place (latch_bit i) (latch_bit j) h g = ap latch_bit (let a = is_not_less i j h in let b = is_not_less j i g in omega arith)
same_place (latch_bit i) (output_bit j) h g = cc h
same_place (output_bit i) (latch_bit j) h g = cc g
same_place (output_bit i) (output_bit j) h g = ap output_bit (let a = is_not_less i j h in let b = is_not_less j i g in omega arith)

pub not_back : (a b : Bit) → stands_before a b ≡ true → stands_before b a ≡ false
not_back a b h = by_case (stands_before b a) refl
  where
    by_case : (t : Bool) → stands_before b a ≡ t → t ≡ false
    by_case true e = absurd (not_itself a (goes_on a b a h e))
    by_case false e = refl

-- ---- first bits

pub moved : (P Q : Bit → Type 0) → ((x : Bit) → P x → Q x) → ((x : Bit) → Q x → P x) → (kept : FirstBits) → AreFirstBits P kept → AreFirstBits Q kept
moved P Q f g no_bit h = λ x q. h x (g x q)
moved P Q f g (one_bit a) h = (f a h.0, λ x q. h.1 x (g x q))
moved P Q f g (two_bits a c) h = (f a h.0, f c h.1, h.2, λ x q. h.3 x (g x q))

pub added : (P : Bit → Type 0) (b : Bit) (kept : FirstBits) → AreFirstBits P kept → AreFirstBits (λ x. P x ⊎ (x ≡ b)) (with_bit b kept)
added P b no_bit h = (inr refl, λ (x : Bit) (p : P x ⊎ (x ≡ b)). elim p [ inl q ↦ absurd (h x q) | inr e ↦ e ])
added P b (one_bit a) h = by_case (stands_before b a) refl (stands_before a b) refl
  where
    by_case : (s : Bool) → stands_before b a ≡ s → (t : Bool) → stands_before a b ≡ t → AreFirstBits (λ x. P x ⊎ (x ≡ b)) (cond s (two_bits b a) (cond t (two_bits a b) (one_bit a)))
    by_case true e t f = (inr refl, inl h.0, e, λ (x : Bit) (p : P x ⊎ (x ≡ b)). elim p [ inl q ↦ inr (inl (h.1 x q)) | inr e ↦ inl e ])
    by_case false e true f = (inl h.0, inr refl, f, λ (x : Bit) (p : P x ⊎ (x ≡ b)). elim p [ inl q ↦ inl (h.1 x q) | inr e ↦ inr (inl e) ])
    by_case false e false f =
        let same : a ≡ b = same_place a b f e in
        (inl h.0, λ (x : Bit) (p : P x ⊎ (x ≡ b)). elim p [ inl q ↦ h.1 x q | inr e ↦ e ∙ sym same ])
added P b (two_bits a c) h = by_case (stands_before b a) refl (stands_before a b) refl (stands_before b c) refl
  where
    front : stands_before b a ≡ true → (x : Bit) → (x ≡ a) ⊎ ((x ≡ c) ⊎ IsTrue (stands_before c x)) → (x ≡ b) ⊎ ((x ≡ a) ⊎ IsTrue (stands_before a x))
    front e x (inl s) = inr (inl s)
    front e x (inr (inl s)) = inr (inr (subst (λ y. stands_before a y ≡ true) (sym s) h.2))
    front e x (inr (inr l)) = inr (inr (goes_on a c x h.2 l))

    middle : stands_before b c ≡ true → (x : Bit) → (x ≡ a) ⊎ ((x ≡ c) ⊎ IsTrue (stands_before c x)) → (x ≡ a) ⊎ ((x ≡ b) ⊎ IsTrue (stands_before b x))
    middle e x (inl s) = inl s
    middle e x (inr (inl s)) = inr (inr (subst (λ y. stands_before b y ≡ true) (sym s) e))
    middle e x (inr (inr l)) = inr (inr (goes_on b c x e l))

    past : stands_before b c ≡ false → (t : Bool) → stands_before c b ≡ t → (b ≡ a) ⊎ ((b ≡ c) ⊎ IsTrue (stands_before c b))
    past e true f = inr (inr f)
    past e false f = inr (inl (same_place b c e f))

    by_case : (s : Bool) → stands_before b a ≡ s → (t : Bool) → stands_before a b ≡ t → (u : Bool) → stands_before b c ≡ u
        → AreFirstBits (λ x. P x ⊎ (x ≡ b)) (cond s (two_bits b a) (cond (t && u) (two_bits a b) (two_bits a c)))
    by_case true e t f u g = (inr refl, inl h.0, e, λ (x : Bit) (p : P x ⊎ (x ≡ b)). elim p [ inl q ↦ front e x (h.3 x q) | inr e ↦ inl e ])
    by_case false e true f true g = (inl h.0, inr refl, f, λ (x : Bit) (p : P x ⊎ (x ≡ b)). elim p [ inl q ↦ middle g x (h.3 x q) | inr e ↦ inr (inl e) ])
    by_case false e true f false g = (
      inl h.0,
      inl h.1,
      h.2,
      λ (x : Bit) (p : P x ⊎ (x ≡ b)). elim p [
        | inl q ↦ h.3 x q
        | inr e ↦ subst (λ y. (y ≡ a) ⊎ ((y ≡ c) ⊎ IsTrue (stands_before c y))) (sym e) (past g (stands_before c b) refl)
      ],
    )
    by_case false e false f u g =
        let same : a ≡ b = same_place a b f e in
        (inl h.0, inl h.1, h.2, λ (x : Bit) (p : P x ⊎ (x ≡ b)). elim p [ inl q ↦ h.3 x q | inr e ↦ inl (e ∙ sym same) ])

-- bits that stand behind two others change nothing
beyond : (P R : Bit → Type 0) (kept : FirstBits) (b c : Bit) → AreFirstBits P kept → P b → P c → stands_before b c ≡ true → ((x : Bit) → P x → R x) → ((x : Bit) → R x → P x ⊎ (stands_before c x ≡ true)) → AreFirstBits R kept
beyond P R no_bit b c h pb pc l f g = absurd (h b pb)
beyond P R (one_bit z) b c h pb pc l f g = absurd (not_itself c (subst (λ y. stands_before y c ≡ true) (h.1 b pb ∙ sym (h.1 c pc)) l))
beyond P R (two_bits z w) b c h pb pc l f g = (f z h.0, f w h.1, h.2, λ x r. elim (g x r) [ inl p ↦ h.3 x p | inr past ↦ inr (inr (far x past (h.3 c pc))) ])
  where
    -- c is no earlier than the second
    first_is : c ≡ z → (b ≡ z) ⊎ ((b ≡ w) ⊎ IsTrue (stands_before w b)) → ⊥
    first_is e (inl s) = not_itself c (subst (λ y. stands_before y c ≡ true) (s ∙ sym e) l)
    first_is e (inr (inl s)) = not_itself z (goes_on z w z h.2 (subst (λ y. stands_before y z ≡ true) s (subst (λ y. stands_before b y ≡ true) e l)))
    first_is e (inr (inr m)) = not_itself z (goes_on z w z h.2 (goes_on w b z m (subst (λ y. stands_before b y ≡ true) e l)))

    far : (x : Bit) → stands_before c x ≡ true → (c ≡ z) ⊎ ((c ≡ w) ⊎ IsTrue (stands_before w c)) → IsTrue (stands_before w x)
    far x past (inl e) = absurd (first_is e (h.3 b pb))
    far x past (inr (inl e)) = subst (λ y. stands_before y x ≡ true) e past
    far x past (inr (inr m)) = goes_on w c x m past

pub merged_are : (P Q : Bit → Type 0) (a b : FirstBits) → AreFirstBits P a → AreFirstBits Q b → AreFirstBits (λ x. P x ⊎ Q x) (merged a b)
merged_are P Q a no_bit h k = moved P (λ x. P x ⊎ Q x) (λ x p. inl p) (λ (x : Bit) (p : P x ⊎ Q x). elim p [ inl q ↦ q | inr q ↦ absurd (k x q) ]) a h
merged_are P Q a (one_bit y) h k =
    moved (λ x. P x ⊎ (x ≡ y)) (λ x. P x ⊎ Q x)
    (λ (x : Bit) (p : P x ⊎ (x ≡ y)). elim p [ inl q ↦ inl q | inr e ↦ inr (subst Q (sym e) k.0) ])
    (λ (x : Bit) (p : P x ⊎ Q x). elim p [ inl q ↦ inl q | inr q ↦ inr (k.1 x q) ])
    (with_bit y a) (added P y a h)
merged_are P Q a (two_bits y z) h k =
    beyond (λ x. (P x ⊎ (x ≡ y)) ⊎ (x ≡ z)) (λ x. P x ⊎ Q x) (with_bit z (with_bit y a)) y z (added (λ x. P x ⊎ (x ≡ y)) z (with_bit y a) (added P y a h)) (inl (inr refl)) (inr refl) k.2 all
    (λ (x : Bit) (p : P x ⊎ Q x). elim p [ inl q ↦ inl (inl (inl q)) | inr q ↦ of_both x (k.3 x q) ])
  where
    all : (x : Bit) → (P x ⊎ (x ≡ y)) ⊎ (x ≡ z) → P x ⊎ Q x
    all x (inl (inl p)) = inl p
    all x (inl (inr e)) = inr (subst Q (sym e) k.0)
    all x (inr e) = inr (subst Q (sym e) k.1)

    of_both : (x : Bit) → (x ≡ y) ⊎ ((x ≡ z) ⊎ IsTrue (stands_before z x)) → ((P x ⊎ (x ≡ y)) ⊎ (x ≡ z)) ⊎ (stands_before z x ≡ true)
    of_both x (inl e) = inl (inl (inr e))
    of_both x (inr (inl e)) = inl (inr e)
    of_both x (inr (inr l)) = inr l

-- some bits have one list of first bits
pub one_kept : (P : Bit → Type 0) (a b : FirstBits) → AreFirstBits P a → AreFirstBits P b → a ≡ b
one_kept P no_bit no_bit h k = refl
one_kept P no_bit (one_bit y) h k = absurd (h y k.0)
one_kept P no_bit (two_bits y z) h k = absurd (h y k.0)
one_kept P (one_bit x) no_bit h k = absurd (k x h.0)
one_kept P (one_bit x) (one_bit y) h k = ap one_bit (k.1 x h.0)
one_kept P (one_bit x) (two_bits y z) h k = absurd (not_itself z (subst (λ w. stands_before w z ≡ true) (h.1 y k.0 ∙ sym (h.1 z k.1)) k.2))
one_kept P (two_bits x w) no_bit h k = absurd (k x h.0)
one_kept P (two_bits x w) (one_bit y) h k = absurd (not_itself w (subst (λ v. stands_before v w ≡ true) (k.1 x h.0 ∙ sym (k.1 w h.1)) h.2))
one_kept P (two_bits x w) (two_bits y z) h k =
    let first : x ≡ y = front (k.3 x h.0) (h.3 y k.0) in
    λ i. two_bits (first i) (back first (k.3 w h.1) (h.3 z k.1) i)
  where
    front : (x ≡ y) ⊎ ((x ≡ z) ⊎ IsTrue (stands_before z x)) → (y ≡ x) ⊎ ((y ≡ w) ⊎ IsTrue (stands_before w y)) → x ≡ y
    front (inl e) r = e
    front r (inl e) = sym e
    front (inr (inl e)) (inr (inl f)) = absurd (not_itself x (goes_on x w x h.2 (subst (λ v. stands_before v x ≡ true) f (subst (λ v. stands_before y v ≡ true) (sym e) k.2))))
    front (inr (inl e)) (inr (inr l)) = absurd (not_itself x (goes_on x w x h.2 (goes_on w y x l (subst (λ v. stands_before y v ≡ true) (sym e) k.2))))
    front (inr (inr m)) (inr (inl f)) = absurd (not_itself x (goes_on x w x h.2 (subst (λ v. stands_before v x ≡ true) f (goes_on y z x k.2 m))))
    front (inr (inr m)) (inr (inr l)) = absurd (not_itself x (goes_on x w x h.2 (goes_on w y x l (goes_on y z x k.2 m))))

    back : x ≡ y → (w ≡ y) ⊎ ((w ≡ z) ⊎ IsTrue (stands_before z w)) → (z ≡ x) ⊎ ((z ≡ w) ⊎ IsTrue (stands_before w z)) → w ≡ z
    back e (inl s) r = absurd (not_itself w (subst (λ v. stands_before v w ≡ true) (e ∙ sym s) h.2))
    back e (inr (inl s)) r = s
    back e (inr (inr l)) (inl s) = absurd (not_itself z (subst (λ v. stands_before v z ≡ true) (sym e ∙ sym s) k.2))
    back e (inr (inr l)) (inr (inl s)) = sym s
    back e (inr (inr l)) (inr (inr m)) = absurd (not_itself w (goes_on w z w m l))

-- the bits that are kept
abbrev Held : FirstBits → Bit → Type 0
Held no_bit x = ⊥
Held (one_bit a) x = x ≡ a
Held (two_bits a b) x = (x ≡ a) ⊎ (x ≡ b)

held_are : (a : FirstBits) → AreInBitOrder a → AreFirstBits (Held a) a
held_are no_bit o = λ x h. h
held_are (one_bit a) o = (refl, λ x e. e)
held_are (two_bits a b) o = (inl refl, inr refl, o, λ (x : Bit) (h : (x ≡ a) ⊎ (x ≡ b)). elim h [ inl e ↦ inl e | inr e ↦ inr (inl e) ])

pub merged_twice : (a b : FirstBits) → AreInBitOrder a → AreInBitOrder b → merged (merged a b) b ≡ merged a b
merged_twice a b o q =
    let once = merged_are (Held a) (Held b) a b (held_are a o) (held_are b q) in
    one_kept (λ x. Held a x ⊎ Held b x) (merged (merged a b) b) (merged a b)
    (moved (λ x. (Held a x ⊎ Held b x) ⊎ Held b x) (λ x. Held a x ⊎ Held b x) fewer (λ x h. inl h) (merged (merged a b) b)
    (merged_are (λ x. Held a x ⊎ Held b x) (Held b) (merged a b) b once (held_are b q)))
    once
  where
    fewer : (x : Bit) → (Held a x ⊎ Held b x) ⊎ Held b x → Held a x ⊎ Held b x
    fewer x (inl h) = h
    fewer x (inr h) = inr h

-- ---- the bits of named places

abbrev Named : (ℕ → Bit) → ℕ → List Name → Name → Bit → Type 0
Named kind i ks n x = (j : ℕ) × (slice_get ks j ≡ Some n) × (x ≡ kind (i + j))

pub named_are : (kind : ℕ → Bit) (i : ℕ) (ks : List Name) (n : Name) (P : Bit → Type 0) (kept : FirstBits) → AreFirstBits P kept → AreFirstBits (λ x. P x ⊎ Named kind i ks n x) (named_bits kind i ks n kept)
named_are kind i [] n P kept h = moved P (λ x. P x ⊎ Named kind i [] n x) (λ x p. inl p) (λ (x : Bit) (p : P x ⊎ Named kind i [] n x). elim p [ inl q ↦ q | inr s ↦ absurd (let e = s.1 in cc e) ]) kept h
named_are kind i (k ∷ ks) n P kept h = by_case (same_name k n) refl (named_are kind (i + 1) ks n (λ x. P x ⊎ (x ≡ kind i)) (with_bit (kind i) kept) (added P (kind i) kept h)) (named_are kind (i + 1) ks n P kept h)
  where
    there : (x : Bit) → Named kind (i + 1) ks n x → Named kind i (k ∷ ks) n x
    there x (j, e, f) = (suc j, e, f ∙ ap kind (omega arith))

    all : same_name k n ≡ true → (x : Bit) → (P x ⊎ (x ≡ kind i)) ⊎ Named kind (i + 1) ks n x → P x ⊎ Named kind i (k ∷ ks) n x
    all s x (inl (inl p)) = inl p
    all s x (inl (inr e)) = inr (0, ap Some ((bytes_decides k n).0 s), e ∙ ap kind (omega arith))
    all s x (inr t) = inr (there x t)

    back : (x : Bit) → P x ⊎ Named kind i (k ∷ ks) n x → (P x ⊎ (x ≡ kind i)) ⊎ Named kind (i + 1) ks n x
    back x (inl p) = inl (inl p)
    back x (inr (zero, e, f)) = inl (inr (f ∙ ap kind (omega arith)))
    back x (inr (suc j, e, f)) = inr (j, e, f ∙ ap kind (omega arith))

    others : (x : Bit) → P x ⊎ Named kind (i + 1) ks n x → P x ⊎ Named kind i (k ∷ ks) n x
    others x (inl p) = inl p
    others x (inr t) = inr (there x t)

    back_others : same_name k n ≡ false → (x : Bit) → P x ⊎ Named kind i (k ∷ ks) n x → P x ⊎ Named kind (i + 1) ks n x
    back_others s x (inl p) = inl p
    back_others s x (inr (zero, e, f)) = absurd (let t : same_name k n ≡ true = (bytes_decides k n).1 (cc e) in cc (s, t))
    back_others s x (inr (suc j, e, f)) = inr (j, e, f ∙ ap kind (omega arith))

    by_case : (b : Bool) → same_name k n ≡ b → AreFirstBits (λ x. (P x ⊎ (x ≡ kind i)) ⊎ Named kind (i + 1) ks n x) (named_bits kind (i + 1) ks n (with_bit (kind i) kept))
        → AreFirstBits (λ x. P x ⊎ Named kind (i + 1) ks n x) (named_bits kind (i + 1) ks n kept) → AreFirstBits (λ x. P x ⊎ Named kind i (k ∷ ks) n x) (named_bits kind (i + 1) ks n (cond b (with_bit (kind i) kept) kept))
    by_case true s one other =
        moved (λ x. (P x ⊎ (x ≡ kind i)) ⊎ Named kind (i + 1) ks n x) (λ x. P x ⊎ Named kind i (k ∷ ks) n x) (all s) back (named_bits kind (i + 1) ks n (with_bit (kind i) kept)) one
    by_case false s one other =
        moved (λ x. P x ⊎ Named kind (i + 1) ks n x) (λ x. P x ⊎ Named kind i (k ∷ ks) n x) others (back_others s) (named_bits kind (i + 1) ks n kept) other

abbrev Stands : List Name → List Name → Name → Bit → Type 0
Stands ds os n (latch_bit i) = slice_get ds i ≡ Some n
Stands ds os n (output_bit i) = slice_get os i ≡ Some n

module _ (ds os : List Name) (n : Name) where
  there_is : (x : Bit) → (⊥ ⊎ Named latch_bit 0 ds n x) ⊎ Named output_bit 0 os n x → Stands ds os n x
  there_is x (inl (inl p)) = absurd p
  there_is x (inl (inr (j, e, f))) = subst (Stands ds os n) (sym (f ∙ ap latch_bit (omega arith))) e
  there_is x (inr (j, e, f)) = subst (Stands ds os n) (sym (f ∙ ap output_bit (omega arith))) e

  is_there : (x : Bit) → Stands ds os n x → (⊥ ⊎ Named latch_bit 0 ds n x) ⊎ Named output_bit 0 os n x
  is_there (latch_bit i) e = inl (inr (i, e, ap latch_bit (omega arith)))
  is_there (output_bit i) e = inr (i, e, ap output_bit (omega arith))

  stand : AreFirstBits (Stands ds os n) (named_bits output_bit 0 os n (named_bits latch_bit 0 ds n no_bit))
  stand =
      moved (λ x. (⊥ ⊎ Named latch_bit 0 ds n x) ⊎ Named output_bit 0 os n x) (Stands ds os n) there_is is_there _
      (named_are output_bit 0 os n (λ x. ⊥ ⊎ Named latch_bit 0 ds n x) (named_bits latch_bit 0 ds n no_bit) (named_are latch_bit 0 ds n (λ x. ⊥) no_bit (λ x p. p)))

pub own_are : (m : Model) (n : Name) → AreFirstBits (IsOwnBit m n) (own_bits m n)
own_are m n = moved (Stands (latch_inputs m) (output_nets m) n) (IsOwnBit m n) f g (own_bits m n) (stand (latch_inputs m) (output_nets m) n)
  where
    f : (x : Bit) → Stands (latch_inputs m) (output_nets m) n x → IsOwnBit m n x
    f (latch_bit i) e = e
    f (output_bit i) e = e

    g : (x : Bit) → IsOwnBit m n x → Stands (latch_inputs m) (output_nets m) n x
    g (latch_bit i) e = e
    g (output_bit i) e = e

pub latch_are : (m : Model) (q : Name) → AreFirstBits (IsLatchBit m q) (latch_bits m q)
latch_are m q = moved (Stands (latch_outputs m) (output_nets m) q) (IsLatchBit m q) f g (latch_bits m q) (stand (latch_outputs m) (output_nets m) q)
  where
    f : (x : Bit) → Stands (latch_outputs m) (output_nets m) q x → IsLatchBit m q x
    f (latch_bit i) e = e
    f (output_bit i) e = e

    g : (x : Bit) → IsLatchBit m q x → Stands (latch_outputs m) (output_nets m) q x
    g (latch_bit i) e = e
    g (output_bit i) e = e

pub named_grow : (kind : ℕ → Bit) (i : ℕ) (ks : List Name) (k n : Name) (kept : FirstBits)
    → named_bits kind i (ks ++ k ∷ []) n kept ≡ cond (same_name k n) (with_bit (kind (i + length ks)) (named_bits kind i ks n kept)) (named_bits kind i ks n kept)
named_grow kind i [] k n kept = ap (λ j. cond (same_name k n) (with_bit (kind j) kept) kept) (let e : i ≡ i + 0 = omega arith in e)
named_grow kind i (l ∷ ks) k n kept =
    named_grow kind (i + 1) ks k n (cond (same_name l n) (with_bit (kind i) kept) kept)
    ∙ ap (λ j. cond (same_name k n) (with_bit (kind j) (named_bits kind (i + 1) ks n (cond (same_name l n) (with_bit (kind i) kept) kept))) (named_bits kind (i + 1) ks n (cond (same_name l n) (with_bit (kind i) kept) kept))) (let e : i + 1 + length ks ≡ i + suc (length ks) = omega arith in e)
