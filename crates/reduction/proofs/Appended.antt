-- Gate lists that grow, and the bits of what is appended.
use Rattle.std.proofs.Common.{◌≡◌, ◌≢◌, sym, ◌∙◌, ap, subst, refl, ℕ, zero, suc, ◌+◌, ◌*◌, ◌<◌, ◌≤◌, Bool, true, false, List, [], ◌∷◌, ◌++◌, length, take, arith, Option, Some, None, Result, Ok, Err, IfOk, OnOk, OnErr, IfSome, add-zero}
use Rattle.std.proofs.lemmas.List.{length-append, length-take, take-take, take_all, take_at}
use Rattle.std.specs.Option.{ForSome}
use Rattle.std.specs.List.{AllByRecursion, enumerate_from}
use Rattle.netlist_spec.specs.Covers.{differ, has_bit}
use Rattle.netlist_spec.specs.Gates.{GateForm, GateList, AnswersWithin, bit_number, gate_answer}
use Rattle.gate_net.specs.declared.gate.NetId.{NetId}
use Rattle.gate_net.specs.GateNet.{net_count}
use Rattle.reduction.specs.Appended.{Extends, IsAppended, HasBit, bit_so_far}

-- Lists that grow.

pub extends_same : (net : GateList) → Extends net net
extends_same net = record { leaves = refl; gates = take_all (length net.gates) net.gates (omega arith) }

pub extends_longer : (old new : GateList) → Extends old new → length old.gates ≤ length new.gates
extends_longer old new e = omega (arith, length-take (length old.gates) new.gates, ap length e.gates)

pub count_grows : (old new : GateList) → Extends old new → net_count old ≤ net_count new
count_grows old new e = let l = e.leaves in let h = extends_longer old new e in omega arith

pub extends_further : (old mid new : GateList) → Extends old mid → Extends mid new → Extends old new
extends_further old mid new a b = record {
  leaves = b.leaves ∙ a.leaves;
  gates =
      sym (take-take (length old.gates) (length mid.gates) new.gates (extends_longer old mid a))
      ∙ (ap (λ (gs : List GateForm). take (length old.gates) gs) b.gates ∙ a.gates);
}

pub extends_push : (old : GateList) (g : GateForm) → Extends old (record old { gates = old.gates ++ g ∷ [] })
extends_push old g = record { leaves = refl; gates = take_at old.gates (g ∷ []) (length old.gates) refl }

-- Answers within a range.

abbrev Within : ℕ → ℕ → (ℕ → Bool) → ℕ → List GateForm → Type 0
Within first end v k gs = AllByRecursion (λ (p : ℕ × GateForm). first ≤ p.0 → p.0 < end → v p.0 ≡ gate_answer p.1 v) (enumerate_from k gs)

narrower : (first end low high : ℕ) (v : ℕ → Bool) → first ≤ low → high ≤ end → (k : ℕ) (gs : List GateForm) → Within first end v k gs → Within low high v k gs
narrower first end low high v l h k [] a = tt
narrower first end low high v l h k (g ∷ gs) a = (λ x y. a.0 (omega arith) (omega arith), narrower first end low high v l h (k + 1) gs a.1)

first_ones : (first end : ℕ) (v : ℕ → Bool) (n k : ℕ) (gs : List GateForm) → Within first end v k gs → Within first end v k (take n gs)
first_ones first end v zero k gs a = tt
first_ones first end v (suc n) k [] a = tt
first_ones first end v (suc n) k (g ∷ gs) a = (a.0, first_ones first end v n (k + 1) gs a.1)

-- Answers of a longer list are answers of its front, in each part of the range.
pub answers_before : (mid new : GateList) (first low high end : ℕ) (v : ℕ → Bool) → Extends mid new → first ≤ low → high ≤ end → AnswersWithin new first end v → AnswersWithin mid low high v
answers_before mid new first low high end v e l h a =
    let P : ℕ → Type 0 = λ k. Within low high v k mid.gates in
    let Q : List GateForm → Type 0 = λ gs. Within low high v new.leaves gs in
    subst P e.leaves (subst Q e.gates (first_ones low high v (length mid.gates) new.leaves new.gates (narrower first end low high v l h new.leaves new.gates a)))

last_one : (first end : ℕ) (v : ℕ → Bool) (g : GateForm) (k : ℕ) (gs : List GateForm) → first ≤ k + length gs → k + length gs < end → Within first end v k (gs ++ g ∷ []) → v (k + length gs) ≡ gate_answer g v
last_one first end v g k [] l h a = ap v (let e : k + 0 ≡ k = omega arith in e) ∙ a.0 (omega arith) (omega arith)
last_one first end v g k (x ∷ gs) l h a =
    ap v (let e : k + length (x ∷ gs) ≡ k + 1 + length gs = omega arith in e) ∙ last_one first end v g (k + 1) gs (omega arith) (omega arith) a.1

-- Bits of appended nets.

pub bit_pushed : (old : GateList) (g : GateForm) → HasBit old (record old { gates = old.gates ++ g ∷ [] }) (net_count old) (gate_answer g)
bit_pushed old g v a = last_one (net_count old) _ v g old.leaves old.gates (omega arith) (let e = length-append old.gates (g ∷ []) in omega arith) a

-- a bit is kept where more gates are appended behind the net, and where the range begins earlier
pub bit_kept : (old first mid new : GateList) (n : ℕ) (bit : (ℕ → Bool) → Bool) → Extends old first → Extends mid new → HasBit first mid n bit → HasBit old new n bit
bit_kept old first mid new n bit a b h v w = h v (answers_before mid new (net_count old) (net_count first) (net_count mid) (net_count new) v b (count_grows old first a) (count_grows mid new b) w)

-- what a call that pushes one gate answers
pub bit_of_push : {E : Type 0} (old new : GateList) (g : GateForm) (bit : (ℕ → Bool) → Bool) → (r : Result NetId E)
    → OnOk r (new ≡ record old { gates = old.gates ++ g ∷ [] }) → IfOk r (λ n. n.0 ≡ net_count old)
    → ((v : ℕ → Bool) → gate_answer g v ≡ bit v)
    → IfOk r (λ n. HasBit old new n.0 bit)
bit_of_push old new g bit (Err e) pushed number same = tt
bit_of_push old new g bit (Ok n) pushed number same =
    let P : GateList → Type 0 = λ net. HasBit old net n.0 bit in
    subst P (sym pushed) (λ v a. ap v number ∙ (bit_pushed old g v a ∙ same v))

-- ... behind other gates
pub bit_of_push_behind : {E : Type 0} (old mid new : GateList) (g : GateForm) (bit : (ℕ → Bool) → Bool) → (r : Result NetId E)
    → Extends old mid
    → OnOk r (new ≡ record mid { gates = mid.gates ++ g ∷ [] }) → IfOk r (λ n. n.0 ≡ net_count mid)
    → ((v : ℕ → Bool) → AnswersWithin mid (net_count old) (net_count mid) v → gate_answer g v ≡ bit v)
    → IfOk r (λ n. HasBit old new n.0 bit)
bit_of_push_behind old mid new g bit (Err e) a pushed number same = tt
bit_of_push_behind old mid new g bit (Ok n) a pushed number same =
    let P : GateList → Type 0 = λ net. HasBit old net n.0 bit in
    let more = record mid { gates = mid.gates ++ g ∷ [] } in
    let long = extends_push mid g in
    subst P (sym pushed) (λ v w.
    ap v number
    ∙ (bit_kept old mid more more (net_count mid) (gate_answer g) a (extends_same more) (bit_pushed mid g) v w
    ∙ same v (answers_before mid more (net_count old) (net_count old) (net_count mid) (net_count more) v long (omega arith) (count_grows mid more long) w)))

pub count_of_push : {E : Type 0} (old new : GateList) (g : GateForm) → (r : Result NetId E) → OnOk r (new ≡ record old { gates = old.gates ++ g ∷ [] }) → OnErr r (new ≡ old) → net_count new ≤ net_count old + 1
count_of_push old new g (Ok n) ok err = let long = length-append old.gates (g ∷ []) in let e = ap net_count ok in omega arith
count_of_push old new g (Err e) ok err = let same = ap net_count err in omega arith

-- the first net that is joined
pub first_answer : (op : ℕ) (empty b : Bool) → has_bit op (2 * bit_number empty) ≢ has_bit op (2 * bit_number empty + 1)
    → differ (has_bit op (2 * bit_number empty + bit_number false)) b ≡ has_bit op (2 * bit_number empty + bit_number b)
first_answer op empty false apart = by_case (has_bit op (2 * bit_number empty + 0))
  where
    by_case : (x : Bool) → differ x false ≡ x
    by_case false = refl
    by_case true = refl
first_answer op empty true apart = by_cases _ _ (λ e. apart (ap (has_bit op) (sym (add-zero (2 * bit_number empty))) ∙ e))
  where
    by_cases : (x y : Bool) → x ≢ y → differ x true ≡ y
    by_cases false false n = absurd (n refl)
    by_cases false true n = refl
    by_cases true false n = refl
    by_cases true true n = absurd (n refl)

pub for_some : {A : Type 0} {P Q : A → Type 0} (o : Option A) → IfSome o P → ((x : A) → P x → Q x) → ForSome o Q
for_some None h f x e = cc e
for_some {A} {P} {Q} (Some y) h f x e = let e' : y ≡ x = cc e in subst Q e' (f y h)

-- Nets that are joined, from some list on.
pub record IsJoined (old now : GateList) (empty : Bool) (so_far : Option NetId) (bit : (ℕ → Bool) → Bool) : Type 0 where
  pub extends : Extends old now
  pub appended : IfSome so_far (λ m. IsAppended old now m.0)
  pub has : (v : ℕ → Bool) → AnswersWithin now (net_count old) (net_count now) v → bit_so_far empty so_far v ≡ bit v

pub joined_none : (net : GateList) (empty : Bool) (bit : (ℕ → Bool) → Bool) → ((v : ℕ → Bool) → empty ≡ bit v) → IsJoined net net empty None bit
joined_none net empty bit e = record { extends = extends_same net; appended = tt; has = λ v _. e v }

pub joined_same : (old now : GateList) (empty : Bool) (so_far : Option NetId) (bit other : (ℕ → Bool) → Bool) → ((v : ℕ → Bool) → bit v ≡ other v) → IsJoined old now empty so_far bit → IsJoined old now empty so_far other
joined_same old now empty so_far bit other e h = record { extends = h.extends; appended = h.appended; has = λ v a. h.has v a ∙ e v }

still_appended : (old now new : GateList) (o : Option NetId) → net_count now ≤ net_count new → IfSome o (λ m. IsAppended old now m.0) → IfSome o (λ m. IsAppended old new m.0)
still_appended old now new None h a = tt
still_appended old now new (Some m) h a = (a.0, omega arith)

pub joined_kept : (old now new : GateList) (empty : Bool) (so_far : Option NetId) (bit : (ℕ → Bool) → Bool) → Extends now new → IsJoined old now empty so_far bit → IsJoined old new empty so_far bit
joined_kept old now new empty so_far bit e h = record {
  extends = extends_further old now new h.extends e;
  appended = still_appended old now new so_far (count_grows now new e) h.appended;
  has = λ v a. h.has v (answers_before now new (net_count old) (net_count old) (net_count now) (net_count new) v e (omega arith) (count_grows now new e) a);
}

-- one more net
pub joined_more : (old now new : GateList) (op : ℕ) (empty : Bool) (so_far : Option NetId) (m : NetId) (n : ℕ) (bit other : (ℕ → Bool) → Bool)
    → IsJoined old now empty so_far bit
    → Extends now new → m.0 ≡ net_count now → net_count new ≡ net_count now + 1
    → HasBit now new m.0 (λ v. has_bit op (2 * bit_number (bit_so_far empty so_far v) + bit_number (v n)))
    → ((v : ℕ → Bool) → AnswersWithin now (net_count old) (net_count now) v → has_bit op (2 * bit_number (bit v) + bit_number (v n)) ≡ other v)
    → IsJoined old new empty (Some m) other
joined_more old now new op empty so_far m n bit other h e number count has same = record {
  extends = extends_further old now new h.extends e;
  appended = (let k = count_grows old now h.extends in omega arith, omega arith);
  has = λ v a.
      let before = answers_before now new (net_count old) (net_count old) (net_count now) (net_count new) v e (omega arith) (count_grows now new e) a in
      has v (answers_before new new (net_count old) (net_count now) (net_count new) (net_count new) v (extends_same new) (count_grows old now h.extends) (omega arith) a)
      ∙ (ap (λ b. has_bit op (2 * bit_number b + bit_number (v n))) (h.has v before) ∙ same v before);
}

pub joined_as : (old now new : GateList) (empty : Bool) (so_far other : Option NetId) (bit : (ℕ → Bool) → Bool) → now ≡ new → so_far ≡ other → IsJoined old new empty other bit → IsJoined old now empty so_far bit
joined_as old now new empty so_far other bit e same h =
    let P : GateList → Type 0 = λ net. IsJoined old net empty so_far bit in
    let Q : Option NetId → Type 0 = λ o. IsJoined old new empty o bit in
    subst P (sym e) (subst Q (sym same) h)

-- what the joined nets came to
pub value_joined : {E : Type 0} (old now new : GateList) (empty : Bool) (so_far : Option NetId) (bit : (ℕ → Bool) → Bool) (r : Result NetId E)
    → IsJoined old now empty so_far bit → Extends now new
    → IfOk r (λ m. HasBit now new m.0 (bit_so_far empty so_far))
    → IfOk r (λ m. HasBit old new m.0 bit)
value_joined old now new empty so_far bit (Err e) h a has = tt
value_joined old now new empty so_far bit (Ok m) h a has = λ v w.
    let before = answers_before now new (net_count old) (net_count old) (net_count now) (net_count new) v a (omega arith) (count_grows now new a) w in
    has v (answers_before new new (net_count old) (net_count now) (net_count new) (net_count new) v (extends_same new) (count_grows old now h.extends) (omega arith) w)
    ∙ h.has v before
