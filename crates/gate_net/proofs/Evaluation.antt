-- The evaluation of a gate list.
use Rattle.std.proofs.Common.{◌≡◌, sym, ◌∙◌, ap, ap₂, subst, refl, ℕ, zero, suc, ◌+◌, ◌*◌, ◌<◌, ◌≤◌, Bool, false, List, [], ◌∷◌, ◌++◌, length, map, take, drop, get_or, set, arith, add-one, drop-cons}
use Rattle.std.proofs.lemmas.List.{length-map, get_or-set_same, get_or-set_other, map-append, take_more, take-map, length-take-le}
use Rattle.std.specs.List.{AllByRecursion, enumerate_from, range_with_len}
use Rattle.netlist_spec.specs.Covers.{differ, has_bit}
use Rattle.netlist_spec.specs.Gates.{GateForm, constant, one, two, bit_number, gate_answer, ReadsBelow}
use Rattle.gate_net.specs.GateNet.{net_bit}

-- two valuations have the same bits on all nets below n
abbrev pub AgreeBelow : ℕ → (ℕ → Bool) → (ℕ → Bool) → Type 0
AgreeBelow n v w = (k : ℕ) → k < n → v k ≡ w k

-- the gates from net k on have their answers
abbrev pub Answered : ℕ → List GateForm → (ℕ → Bool) → Type 0
Answered k gs v = AllByRecursion (λ (p : ℕ × GateForm). v p.0 ≡ gate_answer p.1 v) (enumerate_from k gs)

-- the gates from net k on read lower nets
abbrev pub AllRead : ℕ → List GateForm → Type 0
AllRead k gs = AllByRecursion (λ (p : ℕ × GateForm). ReadsBelow p.0 p.1) (enumerate_from k gs)

-- a gate's answer rests on the nets that it reads
pub answer_agrees : (n : ℕ) (g : GateForm) (v w : ℕ → Bool) → ReadsBelow n g → AgreeBelow n v w → gate_answer g v ≡ gate_answer g w
answer_agrees n (constant b) v w r same = refl
answer_agrees n (one inv a) v w r same = ap (differ inv) (same a r)
answer_agrees n (two op a b) v w r same = ap₂ (λ x y. has_bit op (2 * bit_number x + bit_number y)) (same a r.0) (same b r.1)

-- answers stay where the bits up to the last of the gates do
pub answered_agrees : (gs : List GateForm) (k : ℕ) (v w : ℕ → Bool) → AllRead k gs → AgreeBelow (k + length gs) v w → Answered k gs v → Answered k gs w
answered_agrees [] k v w r same a = tt
answered_agrees (g ∷ gs) k v w r same a = (
  sym (same k (omega arith)) ∙ (a.0 ∙ answer_agrees k g v w r.0 (λ j h. same j (omega arith))),
  answered_agrees gs (k + 1) v w r.1 (λ j h. same j (omega arith)) a.1,
)

-- one gate more
pub all_read_more : (gs : List GateForm) (g : GateForm) (k n : ℕ) → k + length gs ≡ n → AllRead k gs → ReadsBelow n g → AllRead k (gs ++ g ∷ [])
all_read_more [] g k n e r here = (let P : ℕ → Type 0 = λ m. ReadsBelow m g in subst P (let e' : n ≡ k = omega arith in e') here, tt)
all_read_more (x ∷ gs) g k n e r here = (r.0, all_read_more gs g (k + 1) n (omega arith) r.1 here)

pub answered_more : (gs : List GateForm) (g : GateForm) (k n : ℕ) (v : ℕ → Bool) → k + length gs ≡ n → Answered k gs v → v n ≡ gate_answer g v → Answered k (gs ++ g ∷ []) v
answered_more [] g k n v e a here = (let e' : k ≡ n = omega arith in ap v e' ∙ here, tt)
answered_more (x ∷ gs) g k n v e a here = (a.0, answered_more gs g (k + 1) n v (omega arith) a.1 here)

-- the first gates of a list
pub all_read_take : (gs : List GateForm) (k i : ℕ) → AllRead k gs → AllRead k (take i gs)
all_read_take gs k zero r = tt
all_read_take [] k (suc i) r = tt
all_read_take (g ∷ gs) k (suc i) r = (r.0, all_read_take gs (k + 1) i r.1)

-- the last gate of a list and the gates in front of it
pub read_last : (gs : List GateForm) (g : GateForm) (k n : ℕ) → k + length gs ≡ n → AllRead k (gs ++ g ∷ []) → AllRead k gs × ReadsBelow n g
read_last [] g k n e r = (tt, let P : ℕ → Type 0 = λ m. ReadsBelow m g in subst P (let e' : k ≡ n = omega arith in e') r.0)
read_last (x ∷ gs) g k n e r = let rest = read_last gs g (k + 1) n (omega arith) r.1 in ((r.0, rest.0), rest.1)

pub reads_more : (n m : ℕ) (g : GateForm) → n ≤ m → ReadsBelow n g → ReadsBelow m g
reads_more n m (constant b) h r = tt
reads_more n m (one inv a) h r = omega arith
reads_more n m (two op a b) h r = (omega arith, omega arith, r.2)

-- all gates have their answers, in the words of the definition
pub within : (gs : List GateForm) (k first end : ℕ) (v : ℕ → Bool) → Answered k gs v → AllByRecursion (λ (p : ℕ × GateForm). first ≤ p.0 → p.0 < end → v p.0 ≡ gate_answer p.1 v) (enumerate_from k gs)
within [] k first end v a = tt
within (g ∷ gs) k first end v a = (λ _ _. a.0, within gs (k + 1) first end v a.1)

pub from_within : (gs : List GateForm) (k first end : ℕ) (v : ℕ → Bool) → first ≤ k → k + length gs ≤ end → AllByRecursion (λ (p : ℕ × GateForm). first ≤ p.0 → p.0 < end → v p.0 ≡ gate_answer p.1 v) (enumerate_from k gs) → Answered k gs v
from_within [] k first end v low high a = tt
from_within (g ∷ gs) k first end v low high a = (a.0 low (omega arith), from_within gs (k + 1) first end v (omega arith) (omega arith) a.1)

-- the bits of a part of a row
pub bits_read : (row : List Bool) (a n : ℕ) → a + n ≤ length row → map (net_bit row) (range_with_len a n) ≡ take n (drop a row)
bits_read row a zero fits = refl
bits_read row a (suc n) fits =
    ap (λ (rest : List Bool). net_bit row a ∷ rest) (bits_read row (a + 1) n (omega arith) ∙ ap (λ (k : ℕ). take n (drop k row)) (add-one a))
    ∙ sym (ap (λ (rest : List Bool). take (suc n) rest) (drop-cons row a false (omega arith)))

-- Writing the answer of the next gate.

module _ {A : Type 0} (f : A → GateForm) (xs : List A) (i : ℕ) (x : A) (there : i < length xs) (is : x ≡ get_or xs i x) (k : ℕ) (all : AllRead k (map f xs)) where
  next_gate : map f (take (i + 1) xs) ≡ map f (take i xs) ++ f x ∷ []
  next_gate =
      ap (map f) (take_more xs i x there)
      ∙ (map-append f (take i xs) (get_or xs i x ∷ []) ∙ ap (λ y. map f (take i xs) ++ f y ∷ []) (sym is))

  place : k + length (map f (take i xs)) ≡ k + i
  place = let e = length-map (take i xs) f in let h = length-take-le i xs (omega arith) in omega arith

  reads : AllRead k (map f (take i xs)) × ReadsBelow (k + i) (f x)
  reads =
      let P : List GateForm → Type 0 = λ gs. AllRead k gs in
      read_last (map f (take i xs)) (f x) k (k + i) place
      (subst P (take-map f (i + 1) xs ∙ next_gate) (all_read_take (map f xs) k (i + 1) all))

  pub reads_here : (n : ℕ) → k + i ≤ n → ReadsBelow n (f x)
  reads_here n h = reads_more (k + i) n (f x) h reads.1

  module _ (row : List Bool) (fits : k + i < length row) (bit : Bool) (answers : bit ≡ gate_answer (f x) (net_bit row)) where
    kept : AgreeBelow (k + i) (net_bit row) (net_bit (set row (k + i) bit))
    kept = λ j h. sym (get_or-set_other row (k + i) j bit false (λ e. absurd (omega arith)))

    pub answers_more : Answered k (map f (take i xs)) (net_bit row) → Answered k (map f (take (i + 1) xs)) (net_bit (set row (k + i) bit))
    answers_more a =
        let P : List GateForm → Type 0 = λ gs. Answered k gs (net_bit (set row (k + i) bit)) in
        subst P (sym next_gate)
        (answered_more (map f (take i xs)) (f x) k (k + i) (net_bit (set row (k + i) bit)) place
        (answered_agrees (map f (take i xs)) k (net_bit row) (net_bit (set row (k + i) bit)) reads.0 (λ j h. kept j (let e = place in omega arith)) a)
        (get_or-set_same row (k + i) bit false fits ∙ (answers ∙ answer_agrees (k + i) (f x) (net_bit row) (net_bit (set row (k + i) bit)) reads.1 kept)))
