-- Two latches that store one cell share it, and two that store their own nets do not.
use Rattle.std.proofs.Common.{◌≡◌, refl, sym, ◌∙◌, ap, subst, ℕ, zero, suc, ◌<◌, List, [], ◌∷◌, length, get_or, codes, Bool, true, false, not, Some, arith, nat_lt}
use Rattle.std.specs.Prelude.{IsTrue}
use Rattle.std.specs.List.{AllByRecursion}
use Rattle.netlist_spec.specs.Netlist.{Name, same_name, stands_in, names, latch, plain, Model, File}
use Rattle.netlist_spec.specs.Models.{gates_of, output_nets}
use Rattle.netlist_spec.specs.CellBits.{Bit, latch_bit, output_bit, stands_before, Reaches, own, on, IsBitOf, IsGateBit, HasOneBit, IsIndependentCell, IsIndependent, shared, IsFinding}
use Rattle.spec_examples.specs.Examples.{two_latches, buffer_cover, both_cover}

at_element : {A : Type 0} (P : A → Type 0) (xs : List A) (x : A) (k : ℕ) → k < length xs → get_or xs k x ≡ x → AllByRecursion P xs → P x
at_element P [] x k h e a = absurd (omega arith)
at_element P (y ∷ ys) x zero h e a = subst P e a.0
at_element P (y ∷ ys) x (suc k) h e a = at_element P ys x k (omega arith) e a.1

-- a net that no gate reads reaches itself alone
pub reaches_own : (m : Model) (n : Name) → AllByRecursion (λ g. stands_in n g.ins ≡ false) (gates_of m) → {k : Name} → Reaches m n k → k ≡ n
reaches_own m n unread own = refl
reaches_own m n unread (on g r h c e) =
    absurd (both (stands_in n g.ins) (at_element (λ g. stands_in n g.ins ≡ false) (gates_of m) g c.0 c.1 c.2 unread) (subst (λ k. IsTrue (stands_in k g.ins)) (reaches_own m n unread r) e))
  where
    both : (b : Bool) → b ≡ false → b ≡ true → ⊥
    both true f t = cc f
    both false f t = cc t

-- an output reaches itself alone
pub output_own : (m : Model) (n : Name) → stands_in n (output_nets m) ≡ true → {k : Name} → Reaches m n k → k ≡ n
output_own m n out own = refl
output_own m n out (on g r h c e) =
    absurd (both (stands_in n (output_nets m)) out (subst (λ k. IsTrue (not (stands_in k (output_nets m)))) (output_own m n out r) h))
  where
    both : (b : Bool) → b ≡ true → not b ≡ true → ⊥
    both true t f = cc f
    both false t f = cc t

differs : (a b : Name) → same_name a b ≡ false → same_name b b ≡ true → a ≡ b → ⊥
differs a b f t e = go (same_name b b) (sym (ap (λ w. same_name w b) e) ∙ f) t
  where
    go : (x : Bool) → x ≡ false → x ≡ true → ⊥
    go true f t = cc f
    go false f t = cc t

-- ---- both store n

no_bit_first : (b : Bit) → IsTrue (not (stands_before b (latch_bit 0)))
no_bit_first (latch_bit i) = let e : nat_lt i 0 ≡ false = grind arith in ap not e
no_bit_first (output_bit i) = refl

no_bit_between : (b : Bit) → IsTrue (stands_before (latch_bit 0) b) → IsTrue (not (stands_before b (latch_bit 1)))
no_bit_between (latch_bit zero) h = cc h
no_bit_between (latch_bit (suc i)) h = let e : nat_lt (suc i) 1 ≡ false = grind arith in ap not e
no_bit_between (output_bit i) h = refl

abbrev both_store : Model
both_store = two_latches (codes "n")

latch_alone : (d q : Name) (i : ℕ) → HasOneBit both_store (latch d q plain (Some 0)) (latch_bit i) → IsIndependentCell both_store (latch d q plain (Some 0))
latch_alone d q i one = record { narrow = λ h. h; bit = latch_bit i; one = one; rails_alone = λ h. absurd (cc h) }

a_bit : (b : Bit) → IsBitOf both_store (latch (codes "n") (codes "a") plain (Some 0)) b → b ≡ latch_bit 0
a_bit (latch_bit zero) h = refl
a_bit (latch_bit (suc zero)) h = absurd (differs (codes "b") (codes "a") refl refl (cc h))
a_bit (latch_bit (suc (suc i))) h = cc h
a_bit (output_bit zero) h = absurd (differs (codes "y") (codes "a") refl refl (cc h))
a_bit (output_bit (suc i)) h = cc h

b_bit : (b : Bit) → IsBitOf both_store (latch (codes "n") (codes "b") plain (Some 0)) b → b ≡ latch_bit 1
b_bit (latch_bit zero) h = absurd (differs (codes "a") (codes "b") refl refl (cc h))
b_bit (latch_bit (suc zero)) h = refl
b_bit (latch_bit (suc (suc i))) h = cc h
b_bit (output_bit zero) h = absurd (differs (codes "y") (codes "b") refl refl (cc h))
b_bit (output_bit (suc i)) h = cc h

pub shared_is_found : IsFinding both_store (shared (codes "n") (latch_bit 0) (latch_bit 1))
shared_is_found =
    record {
      before = latch (codes "n") (codes "a") plain (Some 0) ∷ latch (codes "n") (codes "b") plain (Some 0) ∷ [];
      cell = names (codes "x" ∷ []) (codes "n") buffer_cover;
      after = names (codes "a" ∷ codes "b" ∷ []) (codes "y") both_cover ∷ [];
      split = refl;
      found = (
        refl,
        (λ h. absurd (omega arith)),
        record {
          has_one = (codes "n", refl, own);
          has_other = (codes "n", refl, own);
          in_order = refl;
          first = λ b h. no_bit_first b;
          second = λ b h before. no_bit_between b before;
        },
      );
      none_before = (
        latch_alone (codes "n") (codes "a") 0 (record { has = refl; only = a_bit }),
        (latch_alone (codes "n") (codes "b") 1 (record { has = refl; only = b_bit }), tt),
      );
    }

-- ---- latch b stores the input x

abbrev apart_store : Model
apart_store = two_latches (codes "x")

-- the D net or the output that a bit names, against the only net that is reached
clash : (n d w : Name) → same_name w n ≡ false → same_name n n ≡ true → Some w ≡ Some d → d ≡ n → ⊥
clash n d w f t e r = differs w n f t (some_same e ∙ r)
  where
    some_same : Some w ≡ Some d → w ≡ d
    some_same e = cc e

n_reaches : {k : Name} → Reaches apart_store (codes "n") k → k ≡ codes "n"
n_reaches r = reaches_own apart_store (codes "n") (refl, (refl, tt)) r

y_reaches : {k : Name} → Reaches apart_store (codes "y") k → k ≡ codes "y"
y_reaches r = output_own apart_store (codes "y") refl r

n_bit : (b : Bit) → IsGateBit apart_store (codes "n") b → b ≡ latch_bit 0
n_bit (latch_bit zero) h = refl
n_bit (latch_bit (suc zero)) h = absurd (clash (codes "n") h.0 (codes "x") refl refl h.1 (n_reaches h.2))
n_bit (latch_bit (suc (suc i))) h = cc h.1
n_bit (output_bit zero) h = absurd (clash (codes "n") h.0 (codes "y") refl refl h.1 (n_reaches h.2))
n_bit (output_bit (suc i)) h = cc h.1

y_bit : (b : Bit) → IsGateBit apart_store (codes "y") b → b ≡ output_bit 0
y_bit (latch_bit zero) h = absurd (clash (codes "y") h.0 (codes "n") refl refl h.1 (y_reaches h.2))
y_bit (latch_bit (suc zero)) h = absurd (clash (codes "y") h.0 (codes "x") refl refl h.1 (y_reaches h.2))
y_bit (latch_bit (suc (suc i))) h = cc h.1
y_bit (output_bit zero) h = refl
y_bit (output_bit (suc i)) h = cc h.1

a_alone : (b : Bit) → IsBitOf apart_store (latch (codes "n") (codes "a") plain (Some 0)) b → b ≡ latch_bit 0
a_alone (latch_bit zero) h = refl
a_alone (latch_bit (suc zero)) h = absurd (differs (codes "b") (codes "a") refl refl (cc h))
a_alone (latch_bit (suc (suc i))) h = cc h
a_alone (output_bit zero) h = absurd (differs (codes "y") (codes "a") refl refl (cc h))
a_alone (output_bit (suc i)) h = cc h

b_alone : (b : Bit) → IsBitOf apart_store (latch (codes "x") (codes "b") plain (Some 0)) b → b ≡ latch_bit 1
b_alone (latch_bit zero) h = absurd (differs (codes "a") (codes "b") refl refl (cc h))
b_alone (latch_bit (suc zero)) h = refl
b_alone (latch_bit (suc (suc i))) h = cc h
b_alone (output_bit zero) h = absurd (differs (codes "y") (codes "b") refl refl (cc h))
b_alone (output_bit (suc i)) h = cc h

abbrev apart_file : File
apart_file = record { models = apart_store ∷ [] }

pub apart_is_independent : IsIndependent apart_file
apart_is_independent = (
  (
    record { narrow = λ h. h; bit = latch_bit 0; one = record { has = refl; only = a_alone }; rails_alone = λ h. absurd (cc h) },
    (
      record { narrow = λ h. h; bit = latch_bit 1; one = record { has = refl; only = b_alone }; rails_alone = λ h. absurd (cc h) },
      (
        record { narrow = λ h. absurd (omega arith); bit = latch_bit 0; one = record { has = (codes "n", refl, own); only = n_bit }; rails_alone = λ h. absurd (cc h) },
        (record { narrow = λ h. absurd (omega arith); bit = output_bit 0; one = record { has = (codes "y", refl, own); only = y_bit }; rails_alone = λ h. absurd (cc h) }, tt),
      ),
    ),
  ),
  tt,
)
