-- The bits along the later `.names` are all bits.
use Rattle.std.proofs.Common.{◌≡◌, refl, sym, ◌∙◌, ap, subst, List, [], ◌∷◌, ◌++◌, map, Bool, true, false, ◌||◌, ◌&&◌, not, cond, ◌⊎◌, inl, inr, arith, zero, suc, Contains}
use Rattle.std.specs.Prelude.{IsTrue, ◌↔◌}
use Rattle.std.specs.Cmp.Lexicographic.{bytes_decides}
use Rattle.netlist_spec.specs.Netlist.{Name, same_name, stands_in, Model}
use Rattle.netlist_spec.specs.Models.{Gate, gates_of, output_nets}
use Rattle.netlist_spec.specs.CellBits.{Bit, latch_bit, output_bit, Reaches, own, on, IsGateBit}
use Rattle.netlist_spec.proofs.OneValue.{at_name, passes_both}
use Rattle.netlist_spec.proofs.NoFault.{other_way}
use Rattle.audit_laws.specs.FirstBits.{FirstBits, no_bit, one_bit, two_bits, AreFirstBits, AreInBitOrder, merged, IsOwnBit}
use Rattle.audit_laws.specs.Along.{passes_on, IsBitAlong, AreInOrder, bits_along, bits_partly, ReadsAreDoneInTurn}
use Rattle.audit_laws.proofs.FirstBits.{moved, merged_are, merged_twice, own_are}

abbrev Among : Gate → List Gate → Type 0
Among g [] = ⊥
Among g (h ∷ gs) = (h ≡ g) ⊎ Among g gs

among : (gs : List Gate) (g : Gate) → Contains gs g → Among g gs
among [] g (k, inside, e) = absurd (omega arith)
among (h ∷ gs) g (zero, inside, e) = inl e
among (h ∷ gs) g (suc k, inside, e) = inr (among gs g (k, omega arith, e))

contained : (gs : List Gate) (g : Gate) → Among g gs → Contains gs g
contained [] g h = absurd h
contained (k ∷ gs) g (inl e) = (0, omega arith, e)
contained (k ∷ gs) g (inr h) = let (i, inside, e) = contained gs g h in (suc i, omega arith, e)

-- ---- a bit along some gates is a bit

begins_before : (m : Model) (x : Name) (g : Gate) → IsTrue (not (stands_in x (output_nets m))) → Contains (gates_of m) g → IsTrue (stands_in x g.ins) → {z : Name} → Reaches m g.out z → Reaches m x z
begins_before m x g inner in_list reads own = on g own inner in_list reads
begins_before m x g inner in_list reads (on h way shut listed read) = on h (begins_before m x g inner in_list reads way) shut listed read

bit_before : (m : Model) (x : Name) (g : Gate) → IsTrue (not (stands_in x (output_nets m))) → Contains (gates_of m) g → IsTrue (stands_in x g.ins) → (bit : Bit) → IsGateBit m g.out bit → IsGateBit m x bit
bit_before m x g inner in_list reads (latch_bit i) (d, stored, way) = (d, stored, begins_before m x g inner in_list reads way)
bit_before m x g inner in_list reads (output_bit i) (o, shown, way) = (o, shown, begins_before m x g inner in_list reads way)

own_is_bit : (m : Model) (n : Name) (bit : Bit) → IsOwnBit m n bit → IsGateBit m n bit
own_is_bit m n (latch_bit i) h = (n, h, own)
own_is_bit m n (output_bit i) h = (n, h, own)

is_bit : (m : Model) (gates : List Gate) → ((g : Gate) → Among g gates → Contains (gates_of m) g) → (n : Name) (bit : Bit) → IsBitAlong m gates n bit → IsGateBit m n bit
is_bit m [] all n bit h = own_is_bit m n bit h
is_bit m (g ∷ later) all n bit (inl h) = is_bit m later (λ k a. all k (inr a)) n bit h
is_bit m (g ∷ later) all n bit (inr (p, h)) =
    let parts = passes_both _ _ p in
    bit_before m n g parts.0 (all g (inl refl)) parts.1 bit (is_bit m later (λ k a. all k (inr a)) g.out bit h)

-- ---- all bits are along the gates

-- a gate reads no later output
out_stands : (g : Gate) (gs : List Gate) → Among g gs → stands_in g.out (map (λ h. h.out) gs) ≡ true
out_stands g [] h = absurd h
out_stands g (k ∷ gs) (inl e) = ap (λ (b : Bool). b || stands_in g.out (map (λ h. h.out) gs)) ((bytes_decides g.out k.out).1 (ap (λ (h : Gate). h.out) (sym e)))
out_stands g (k ∷ gs) (inr a) = or_true (same_name g.out k.out) (out_stands g gs a)
  where
    or_true : (a : Bool) {b : Bool} → b ≡ true → (a || b) ≡ true
    or_true true e = refl
    or_true false e = e

no_read : (m : Model) (h : Gate) (later : List Gate) → AreInOrder (h ∷ later) → (g : Gate) → Among g (h ∷ later) → IsTrue (passes_on m h g.out) → ⊥
no_read m h later order g a p =
    let off = at_name (λ n. IsTrue (not (stands_in n (map (λ h. h.out) (h ∷ later))))) g.out h.ins order.0 (passes_both _ _ p).1 in
    clash (stands_in g.out (map (λ h. h.out) (h ∷ later))) off (out_stands g (h ∷ later) a)
  where
    clash : (b : Bool) → not b ≡ true → b ≡ true → ⊥
    clash true e f = cc e
    clash false e f = cc f

closed : (m : Model) (gates : List Gate) → AreInOrder gates → (g : Gate) → Among g gates → (n : Name) → IsTrue (passes_on m g n) → (bit : Bit) → IsBitAlong m gates g.out bit → IsBitAlong m gates n bit
closed m [] order g a n p bit h = absurd a
closed m (k ∷ later) order g a n p bit (inr (q, h)) = absurd (no_read m k later order g a q)
closed m (k ∷ later) order g (inl e) n p bit (inl h) = inr (subst (λ x. IsTrue (passes_on m x n)) (sym e) p, subst (λ x. IsBitAlong m later x.out bit) (sym e) h)
closed m (k ∷ later) order g (inr a) n p bit (inl h) = inl (closed m later order.1 g a n p bit h)

both_true : (a b : Bool) → a ≡ true → b ≡ true → (a && b) ≡ true
both_true true b e f = f
both_true false b e f = cc e

back_along : (m : Model) (gates : List Gate) → AreInOrder gates → ((g : Gate) → Contains (gates_of m) g → Among g gates) → (n : Name) (bit : Bit) → {k : Name} → Reaches m n k → IsBitAlong m gates k bit → IsBitAlong m gates n bit
back_along m gates order all n bit own h = h
back_along m gates order all n bit (on {k = k} g way shut listed read) h =
    back_along m gates order all n bit way (closed m gates order g (all g listed) k (both_true _ _ shut read) bit h)

own_along : (m : Model) (gates : List Gate) (n : Name) (bit : Bit) → IsOwnBit m n bit → IsBitAlong m gates n bit
own_along m [] n bit h = h
own_along m (g ∷ later) n bit h = inl (own_along m later n bit h)

is_along : (m : Model) → AreInOrder (gates_of m) → (n : Name) (bit : Bit) → IsGateBit m n bit → IsBitAlong m (gates_of m) n bit
is_along m order n (latch_bit i) (d, stored, way) = back_along m (gates_of m) order (among (gates_of m)) n (latch_bit i) way (own_along m (gates_of m) d (latch_bit i) stored)
is_along m order n (output_bit i) (o, shown, way) = back_along m (gates_of m) order (among (gates_of m)) n (output_bit i) way (own_along m (gates_of m) o (output_bit i) shown)

pub all_along : (m : Model) (n : Name) (bit : Bit) → AreInOrder (gates_of m) → IsBitAlong m (gates_of m) n bit ↔ IsGateBit m n bit
all_along m n bit order = (is_bit m (gates_of m) (contained (gates_of m)) n bit, is_along m order n bit)

-- the later ones are enough
among_later : (before : List Gate) (g : Gate) (later : List Gate) → Among g (before ++ g ∷ later)
among_later [] g later = inl refl
among_later (k ∷ before) g later = inr (among_later before g later)

later_alone : (m : Model) (before : List Gate) (g : Gate) (later : List Gate) → AreInOrder (before ++ g ∷ later) → (bit : Bit) → IsBitAlong m (before ++ g ∷ later) g.out bit → IsBitAlong m later g.out bit
later_alone m [] g later order bit (inl h) = h
later_alone m [] g later order bit (inr (p, h)) = h
later_alone m (k ∷ before) g later order bit (inl h) = later_alone m before g later order.1 bit h
later_alone m (k ∷ before) g later order bit (inr (p, h)) = absurd (no_read m k (before ++ g ∷ later) order g (inr (among_later before g later)) p)

more_along : (m : Model) (before : List Gate) (g : Gate) (later : List Gate) (n : Name) (bit : Bit) → IsBitAlong m later n bit → IsBitAlong m (before ++ g ∷ later) n bit
more_along m [] g later n bit h = inl h
more_along m (k ∷ before) g later n bit h = inl (more_along m before g later n bit h)

pub along_later : (m : Model) (before : List Gate) (g : Gate) (later : List Gate) (bit : Bit) → AreInOrder (gates_of m) → gates_of m ≡ before ++ g ∷ later → IsBitAlong m later g.out bit ↔ IsGateBit m g.out bit
along_later m before g later bit order e = (
  (λ h. (all_along m g.out bit order).0 (subst (λ gs. IsBitAlong m gs g.out bit) (sym e) (more_along m before g later g.out bit h))),
  λ h. later_alone m before g later (subst AreInOrder e order) bit (subst (λ gs. IsBitAlong m gs g.out bit) e ((all_along m g.out bit order).1 h)),
)

-- ---- the first two of them

pub kept_along : (m : Model) (gates : List Gate) (n : Name) → AreFirstBits (IsBitAlong m gates n) (bits_along m gates n)
kept_along m [] n = own_are m n
kept_along m (g ∷ later) n = by_case (passes_on m g n) refl (kept_along m later n) (kept_along m later g.out)
  where
    by_case : (b : Bool) → passes_on m g n ≡ b → AreFirstBits (IsBitAlong m later n) (bits_along m later n) → AreFirstBits (IsBitAlong m later g.out) (bits_along m later g.out)
        → AreFirstBits (IsBitAlong m (g ∷ later) n) (cond b (merged (bits_along m later n) (bits_along m later g.out)) (bits_along m later n))
    by_case true e here out =
        moved (λ x. IsBitAlong m later n x ⊎ IsBitAlong m later g.out x) (IsBitAlong m (g ∷ later) n)
        (λ (x : Bit) (p : IsBitAlong m later n x ⊎ IsBitAlong m later g.out x). elim p [ inl h ↦ inl h | inr h ↦ inr (e, h) ])
        (λ (x : Bit) (p : IsBitAlong m (g ∷ later) n x). elim p [ inl h ↦ inl h | inr h ↦ inr h.1 ])
        (merged (bits_along m later n) (bits_along m later g.out))
        (merged_are (IsBitAlong m later n) (IsBitAlong m later g.out) (bits_along m later n) (bits_along m later g.out) here out)
    by_case false e here out =
        moved (IsBitAlong m later n) (IsBitAlong m (g ∷ later) n) (λ x h. inl h)
        (λ (x : Bit) (p : IsBitAlong m (g ∷ later) n x). elim p [ inl h ↦ h | inr h ↦ absurd (let t : passes_on m g n ≡ true = h.0 in cc (e, t)) ])
        (bits_along m later n) here

-- ---- the reads of one `.names`, one after another

or_assoc : (a b c : Bool) → ((a || b) || c) ≡ (a || (b || c))
or_assoc true b c = refl
or_assoc false b c = refl

or_false : (a : Bool) → (a || false) ≡ a
or_false true = refl
or_false false = refl

or_true : (a : Bool) → (a || true) ≡ true
or_true true = refl
or_true false = refl

and_false : (a : Bool) → (a && false) ≡ false
and_false true = refl
and_false false = refl

stands_end : (n k : Name) (done : List Name) → stands_in n (done ++ k ∷ []) ≡ (stands_in n done || same_name n k)
stands_end n k [] = or_false (same_name n k)
stands_end n k (d ∷ done) = ap (λ (b : Bool). same_name n d || b) (stands_end n k done) ∙ sym (or_assoc (same_name n d) (stands_in n done) (same_name n k))

in_order_of : (P : Bit → Type 0) (a : FirstBits) → AreFirstBits P a → AreInBitOrder a
in_order_of P no_bit h = tt
in_order_of P (one_bit x) h = tt
in_order_of P (two_bits x y) h = h.2

pub in_turn : (m : Model) (later : List Gate) (g : Gate) (n : Name) → ReadsAreDoneInTurn m later g n
in_turn m later g n = record { none = ap (λ (b : Bool). cond b (merged (bits_along m later n) (bits_along m later g.out)) (bits_along m later n)) (and_false (not (stands_in n (output_nets m)))); one_more = one_more; all = refl }
  where
    twice : merged (merged (bits_along m later n) (bits_along m later g.out)) (bits_along m later g.out) ≡ merged (bits_along m later n) (bits_along m later g.out)
    twice =
        merged_twice (bits_along m later n) (bits_along m later g.out) (in_order_of (IsBitAlong m later n) (bits_along m later n) (kept_along m later n))
        (in_order_of (IsBitAlong m later g.out) (bits_along m later g.out) (kept_along m later g.out))

    merges : (a b : FirstBits) (o s : Bool) → merged (merged a b) b ≡ merged a b → cond (not o && true) (merged a b) a ≡ cond (not o) (merged (cond (not o && s) (merged a b) a) b) (cond (not o && s) (merged a b) a)
    merges a b true s e = refl
    merges a b false true e = sym e
    merges a b false false e = refl

    by_case : (done : List Name) (k : Name) (b : Bool) → same_name k n ≡ b
        → bits_partly m later g (done ++ k ∷ []) n ≡ cond (b && not (stands_in k (output_nets m))) (merged (bits_partly m later g done n) (bits_along m later g.out)) (bits_partly m later g done n)
    by_case done k false e =
        ap (λ (b : Bool). cond (not (stands_in n (output_nets m)) && b) (merged (bits_along m later n) (bits_along m later g.out)) (bits_along m later n))
        (stands_end n k done ∙ (ap (λ (b : Bool). stands_in n done || b) (other_way k n e) ∙ or_false (stands_in n done)))
    by_case done k true e =
        let same : k ≡ n = (bytes_decides k n).0 e in
        ap (λ (b : Bool). cond (not (stands_in n (output_nets m)) && b) (merged (bits_along m later n) (bits_along m later g.out)) (bits_along m later n))
        (stands_end n k done ∙ (ap (λ (b : Bool). stands_in n done || b) ((bytes_decides n k).1 (sym same)) ∙ or_true (stands_in n done)))
        ∙ (merges (bits_along m later n) (bits_along m later g.out) (stands_in n (output_nets m)) (stands_in n done) twice
        ∙ ap (λ (x : Name). cond (not (stands_in x (output_nets m))) (merged (bits_partly m later g done n) (bits_along m later g.out)) (bits_partly m later g done n)) (sym same))

    one_more : (done : List Name) (k : Name)
        → bits_partly m later g (done ++ k ∷ []) n ≡ cond (same_name k n && not (stands_in k (output_nets m))) (merged (bits_partly m later g done n) (bits_along m later g.out)) (bits_partly m later g done n)
    one_more done k = by_case done k (same_name k n) refl
