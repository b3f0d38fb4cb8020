-- Nets that are answered one after another.
use Rattle.std.proofs.Common.{◌≡◌, sym, ◌∙◌, ap, ap₂, subst, refl, ℕ, zero, suc, ◌+◌, ◌<◌, ◌≤◌, Bool, List, [], ◌∷◌, ◌++◌, length, map, get_or, arith, Result, Ok, Err, IfOk}
use Rattle.std.specs.Prelude.{Vec}
use Rattle.std.specs.declared.alloc.Global.{Global}
use Rattle.std.proofs.lemmas.List.{length-append}
use Rattle.std.specs.List.{AllByRecursion, range_with_len}
use Rattle.netlist_spec.specs.Gates.{GateForm, GateList, gate_answer}
use Rattle.gate_net.specs.declared.gate.NetId.{NetId}
use Rattle.gate_net.specs.Gate.{net_number}
use Rattle.gate_net.specs.GateNet.{net_count}
use Rattle.reduction.specs.Appended.{Extends, IsAppended, HasBit, HasBits}
use Rattle.reduction.proofs.Appended.{extends_same, extends_push, extends_further, count_grows, answers_before, bit_of_push}

-- the nets that were answered so far, and their bits
pub record AreAnswered (old now : GateList) (outs : List NetId) (bits : (ℕ → Bool) → List Bool) : Type 0 where
  pub extends : Extends old now
  pub appended : AllByRecursion (IsAppended old now) (map net_number outs)
  pub has : HasBits old now (map net_number outs) bits

pub answered_none : (net : GateList) → AreAnswered net net [] (λ v. [])
answered_none net = record { extends = extends_same net; appended = tt; has = λ v a. refl }

all_push : (P Q : ℕ → Type 0) (outs : List NetId) (n : NetId) → ((k : ℕ) → P k → Q k) → AllByRecursion P (map net_number outs) → Q n.0 → AllByRecursion Q (map net_number (outs ++ n ∷ []))
all_push P Q [] n more all here = (here, tt)
all_push P Q (x ∷ outs) n more all here = (more x.0 all.0, all_push P Q outs n more all.1 here)

bits_push : (v : ℕ → Bool) (outs : List NetId) (n : NetId) → map v (map net_number (outs ++ n ∷ [])) ≡ map v (map net_number outs) ++ v n.0 ∷ []
bits_push v [] n = refl
bits_push v (x ∷ outs) n = ap (λ rest. v x.0 ∷ rest) (bits_push v outs n)

pub answered_more : (old now new : GateList) (outs : List NetId) (n : NetId) (bits : (ℕ → Bool) → List Bool) (bit : (ℕ → Bool) → Bool)
    → Extends now new → IsAppended now new n.0 → HasBit now new n.0 bit
    → AreAnswered old now outs bits → AreAnswered old new (outs ++ n ∷ []) (λ v. bits v ++ bit v ∷ [])
answered_more old now new outs n bits bit e own has h =
    let first = count_grows old now h.extends in
    let later = count_grows now new e in
    record {
      extends = extends_further old now new h.extends e;
      appended = all_push (IsAppended old now) (IsAppended old new) outs n (λ k a. (a.0, omega arith)) h.appended (omega arith, own.1);
      has = λ v a.
          bits_push v outs n
          ∙ ap₂ (λ (bs : List Bool) (b : Bool). bs ++ b ∷ [])
          (h.has v (answers_before now new (net_count old) (net_count old) (net_count now) (net_count new) v e (omega arith) later a))
          (has v (answers_before new new (net_count old) (net_count now) (net_count new) (net_count new) v (extends_same new) first (omega arith) a));
    }

-- one gate, with its answer
pub answered_push : (old now new : GateList) (outs : List NetId) (n : NetId) (g : GateForm) (bits : (ℕ → Bool) → List Bool)
    → new ≡ record now { gates = now.gates ++ g ∷ [] } → n.0 ≡ net_count now
    → AreAnswered old now outs bits → AreAnswered old new (outs ++ n ∷ []) (λ v. bits v ++ gate_answer g v ∷ [])
answered_push old now new outs n g bits pushed number h =
    let long = length-append now.gates (g ∷ []) in
    let more : net_count new ≡ net_count now + 1 = let e = ap net_count pushed in omega arith in
    answered_more old now new outs n bits (gate_answer g)
    (let P : GateList → Type 0 = λ net. Extends now net in subst P (sym pushed) (extends_push now g))
    (omega arith, omega arith)
    (bit_of_push {E = ℕ} now new g (gate_answer g) (Ok n) pushed number (λ v. refl))
    h

pub answered_same : (old now : GateList) (outs : List NetId) (bits others : (ℕ → Bool) → List Bool) → ((v : ℕ → Bool) → bits v ≡ others v) → AreAnswered old now outs bits → AreAnswered old now outs others
answered_same old now outs bits others e h = record { extends = h.extends; appended = h.appended; has = λ v a. h.has v a ∙ e v }

all_append : (P Q R : ℕ → Type 0) (low high : List NetId) → ((k : ℕ) → P k → R k) → ((k : ℕ) → Q k → R k) → AllByRecursion P (map net_number low) → AllByRecursion Q (map net_number high) → AllByRecursion R (map net_number (low ++ high))
all_append P Q R [] [] f g a b = tt
all_append P Q R [] (y ∷ high) f g a b = (g y.0 b.0, all_append P Q R [] high f g tt b.1)
all_append P Q R (x ∷ low) high f g a b = (f x.0 a.0, all_append P Q R low high f g a.1 b)

bits_append : (v : ℕ → Bool) (low high : List NetId) → map v (map net_number (low ++ high)) ≡ map v (map net_number low) ++ map v (map net_number high)
bits_append v [] high = refl
bits_append v (x ∷ low) high = ap (λ rest. v x.0 ∷ rest) (bits_append v low high)

-- the nets of one call behind those of another
pub answered_append : (old mid new : GateList) (low high : List NetId) (first second : (ℕ → Bool) → List Bool)
    → AreAnswered old mid low first → AreAnswered mid new high second → AreAnswered old new (low ++ high) (λ v. first v ++ second v)
answered_append old mid new low high first second a b =
    let before = count_grows old mid a.extends in
    let later = count_grows mid new b.extends in
    record {
      extends = extends_further old mid new a.extends b.extends;
      appended = all_append (IsAppended old mid) (IsAppended mid new) (IsAppended old new) low high (λ k h. (h.0, omega arith)) (λ k h. (omega arith, h.1)) a.appended b.appended;
      has = λ v w.
          bits_append v low high
          ∙ ap₂ (λ (x y : List Bool). x ++ y)
          (a.has v (answers_before mid new (net_count old) (net_count old) (net_count mid) (net_count new) v b.extends (omega arith) later w))
          (b.has v (answers_before new new (net_count old) (net_count mid) (net_count new) (net_count new) v (extends_same new) before (omega arith) w));
    }

all_more : (P Q : ℕ → Type 0) (outs : List NetId) → ((k : ℕ) → P k → Q k) → AllByRecursion P (map net_number outs) → AllByRecursion Q (map net_number outs)
all_more P Q [] f a = tt
all_more P Q (x ∷ outs) f a = (f x.0 a.0, all_more P Q outs f a.1)

-- The nets of one call over those of another, in whose place they stand.
pub answered_over : (old mid new : GateList) (terms outs : List NetId) (bits : (ℕ → Bool) → List Bool) (over : (ℕ → Bool) → List Bool → List Bool)
    → AreAnswered old mid terms bits → AreAnswered mid new outs (λ v. over v (map v (map net_number terms))) → AreAnswered old new outs (λ v. over v (bits v))
answered_over old mid new terms outs bits over a b =
    let before = count_grows old mid a.extends in
    let later = count_grows mid new b.extends in
    record {
      extends = extends_further old mid new a.extends b.extends;
      appended = all_more (IsAppended mid new) (IsAppended old new) outs (λ k h. (omega arith, h.1)) b.appended;
      has = λ v w.
          b.has v (answers_before new new (net_count old) (net_count mid) (net_count new) (net_count new) v (extends_same new) before (omega arith) w)
          ∙ ap (over v) (a.has v (answers_before mid new (net_count old) (net_count old) (net_count mid) (net_count new) v b.extends (omega arith) later w));
    }

pub bits_over : {E : Type 0} (old mid new : GateList) (terms : List NetId) (r : Result (Vec NetId Global) E) (bits : (ℕ → Bool) → List Bool) (over : (ℕ → Bool) → List Bool → List Bool)
    → AreAnswered old mid terms bits → Extends mid new
    → IfOk r (λ outs. AllByRecursion (IsAppended mid new) (map net_number outs.items))
    → IfOk r (λ outs. HasBits mid new (map net_number outs.items) (λ v. over v (map v (map net_number terms))))
    → IfOk r (λ outs. HasBits old new (map net_number outs.items) (λ v. over v (bits v)))
bits_over old mid new terms (Err e) bits over a more appended has = tt
bits_over old mid new terms (Ok outs) bits over a more appended has =
    (answered_over old mid new terms outs.items bits over a (record { extends = more; appended = appended; has = has })).has

-- appended nets are nets
pub are_nets : (old now : GateList) (outs : List NetId) → AllByRecursion (IsAppended old now) (map net_number outs) → AllByRecursion (λ n. n < net_count now) (map net_number outs)
are_nets old now outs a = all_more (IsAppended old now) (λ n. n < net_count now) outs (λ k h. h.1) a

-- nets stay nets
pub still_nets : (old now : GateList) (ins : List NetId) → net_count old ≤ net_count now → AllByRecursion (λ n. n < net_count old) (map net_number ins) → AllByRecursion (λ n. n < net_count now) (map net_number ins)
still_nets old now ins grows a = all_more (λ n. n < net_count old) (λ n. n < net_count now) ins (λ k h. omega arith) a

-- a list by its places
pub by_places : {X : Type 0} (f : ℕ → X) (xs : List ℕ) → map f xs ≡ map (λ i. f (get_or xs i 0)) (range_with_len 0 (length xs))
by_places f [] = refl
by_places f (x ∷ xs) = ap (λ rest. f x ∷ rest) (by_places f xs ∙ shifted (λ i. f (get_or (x ∷ xs) i 0)) 0 (length xs))
  where
    shifted : {X : Type 0} (g : ℕ → X) (a n : ℕ) → map (λ i. g (suc i)) (range_with_len a n) ≡ map g (range_with_len (a + 1) n)
    shifted g a zero = refl
    shifted g a (suc n) = let e : suc a ≡ a + 1 = omega arith in ap₂ (λ y rest. y ∷ rest) (ap g e) (shifted g (a + 1) n)

-- the same bits in other words
pub bits_same : {E : Type 0} (old new : GateList) (r : Result (Vec NetId Global) E) (bits others : (ℕ → Bool) → List Bool) → ((v : ℕ → Bool) → bits v ≡ others v)
    → IfOk r (λ outs. HasBits old new (map net_number outs.items) bits)
    → IfOk r (λ outs. HasBits old new (map net_number outs.items) others)
bits_same old new (Err e) bits others same h = tt
bits_same old new (Ok outs) bits others same h = λ v a. h v a ∙ same v
