-- Nets that appended gates compute, one after another.
use Rattle.std.proofs.Common.{◌≡◌, sym, ◌∙◌, ap, ap₂, subst, refl, ℕ, suc, ◌+◌, ◌*◌, ◌<◌, ◌≤◌, ◌⊎◌, inl, inr, Bool, List, [], ◌∷◌, ◌++◌, map, Contains, arith, Ok}
use Rattle.std.specs.List.{AllByRecursion}
use Rattle.std.proofs.lemmas.List.{length-append, map_push}
use Rattle.netlist_spec.specs.Covers.{has_bit}
use Rattle.netlist_spec.specs.Gates.{GateForm, constant, two, GateList, AnswersWithin, bit_number, gate_answer}
use Rattle.gate_net.specs.GateNet.{net_count}
use Rattle.reduction.specs.Appended.{Extends, ReadsInputsAlone}
use Rattle.reduction.proofs.Appended.{extends_same, extends_further, count_grows, answers_before, bit_of_push}
use Rattle.reduction.proofs.GateReads.{AreAllowed, allowed_none, allowed_also, allowed_self, reads_same, reads_further, reads_over, reads_of_push, extends_of_push}
use Rattle.cone_split.proofs.Cells.{contains_cases, contains_tail, all_contains, all_from_contains}
use Rattle.corrector.specs.Computed.{IsComputed, AreComputed}

-- The answers of a longer list, in its front and in its back.

pub answers_in_front : (old mid new : GateList) (v : ℕ → Bool) → Extends mid new → AnswersWithin new (net_count old) (net_count new) v → AnswersWithin mid (net_count old) (net_count mid) v
answers_in_front old mid new v e a = answers_before mid new (net_count old) (net_count old) (net_count mid) (net_count new) v e (omega arith) (count_grows mid new e) a

pub answers_behind : (old mid new : GateList) (v : ℕ → Bool) → Extends old mid → AnswersWithin new (net_count old) (net_count new) v → AnswersWithin new (net_count mid) (net_count new) v
answers_behind old mid new v e a = answers_before new new (net_count old) (net_count mid) (net_count new) (net_count new) v (extends_same new) (count_grows old mid e) (omega arith) a

-- Elements of lists.

pub in_left : (xs ys : List ℕ) (k : ℕ) → Contains xs k → Contains (xs ++ ys) k
in_left [] ys k c = absurd (let h = c.1 in omega arith)
in_left (x ∷ xs) ys k c = elim (contains_cases x k xs c) [ inl e ↦ (0, omega arith, e) | inr d ↦ contains_tail x k (xs ++ ys) (in_left xs ys k d) ]

pub in_right : (xs ys : List ℕ) (k : ℕ) → Contains ys k → Contains (xs ++ ys) k
in_right [] ys k c = c
in_right (x ∷ xs) ys k c = contains_tail x k (xs ++ ys) (in_right xs ys k c)

pub allowed_right : (n : ℕ) (xs ys : List ℕ) (first : ℕ) → AreAllowed (n ∷ xs ++ ys) first (n ∷ ys)
allowed_right n xs ys first k c = elim (contains_cases n k ys c) [ inl e ↦ inl (0, omega arith, e) | inr d ↦ inl (contains_tail n k (xs ++ ys) (in_right xs ys k d)) ]

-- nets of the front of a list, later
pub all_later : (old now : GateList) (ns ms : List ℕ) → Extends old now → AllByRecursion (λ n. n < net_count old) ns → ((k : ℕ) → Contains ms k → Contains ns k) → AllByRecursion (λ n. n < net_count now) ms
all_later old now ns ms e all sub = all_from_contains (λ n. n < net_count now) ms (λ k c. let h = all_contains (λ n. n < net_count old) ns k all (sub k c) in let g = count_grows old now e in omega arith)

-- ---- one net

pub computed_given : (net : GateList) (ins : List ℕ) (n : ℕ) → Contains ins n → n < net_count net → IsComputed net net ins n (λ v. v n)
computed_given net ins n c h = record { extends = extends_same net; reads = reads_same net ins; known = inl c; below = h; has = λ v a. refl }

-- the same bit in other words
pub computed_same : (old new : GateList) (ins : List ℕ) (n : ℕ) (bit other : (ℕ → Bool) → Bool) → ((v : ℕ → Bool) → bit v ≡ other v) → IsComputed old new ins n bit → IsComputed old new ins n other
computed_same old new ins n bit other same h = record { extends = h.extends; reads = h.reads; known = h.known; below = h.below; has = λ v a. h.has v a ∙ same v }

-- a constant in front
pub computed_constant : (old new : GateList) (ins : List ℕ) (b : Bool) (m : ℕ) → new ≡ record old { gates = old.gates ++ constant b ∷ [] } → m ≡ net_count old → IsComputed old new ins m (λ v. b)
computed_constant old new ins b m pushed number =
    let long = length-append old.gates (constant b ∷ []) in
    let more = ap net_count pushed in
    record {
      extends = extends_of_push {E = ℕ} old new (constant b) (Ok (record { 0 = m })) pushed tt;
      reads = reads_of_push {E = ℕ} old new (constant b) ins (Ok (record { 0 = m })) pushed tt (allowed_none ins (net_count old));
      known = inr (omega arith);
      below = omega arith;
      has = bit_of_push {E = ℕ} old new (constant b) (λ v. b) (Ok (record { 0 = m })) pushed number (λ v. refl);
    }

-- a gate over the net and another one
pub computed_push : (old now new : GateList) (ins : List ℕ) (a b op m : ℕ) (bit other : (ℕ → Bool) → Bool)
    → new ≡ record now { gates = now.gates ++ two op a b ∷ [] } → m ≡ net_count now → Contains ins b ⊎ (net_count old ≤ b)
    → ((v : ℕ → Bool) → AnswersWithin now (net_count old) (net_count now) v → has_bit op (2 * bit_number (bit v) + bit_number (v b)) ≡ other v)
    → IsComputed old now ins a bit → IsComputed old new ins m other
computed_push old now new ins a b op m bit other pushed number second same h =
    let g : GateForm = two op a b in
    let grown = extends_of_push {E = ℕ} now new g (Ok (record { 0 = m })) pushed tt in
    let long = length-append now.gates (g ∷ []) in
    let more = ap net_count pushed in
    let front = count_grows old now h.extends in
    record {
      extends = extends_further old now new h.extends grown;
      reads =
          reads_further old now new ins (a ∷ b ∷ []) h.extends grown
          (allowed_also ins (b ∷ []) (net_count old) a h.known (allowed_also ins [] (net_count old) b second (allowed_none ins (net_count old))))
          h.reads
          (reads_of_push {E = ℕ} now new g (a ∷ b ∷ []) (Ok (record { 0 = m })) pushed tt (allowed_self (a ∷ b ∷ []) (net_count now)));
      known = inr (omega arith);
      below = omega arith;
      has = λ v answers.
          let before = answers_in_front old now new v grown answers in
          bit_of_push {E = ℕ} now new g (gate_answer g) (Ok (record { 0 = m })) pushed number (λ w. refl) v (answers_behind old now new v h.extends answers)
          ∙ (ap (λ (x : Bool). has_bit op (2 * bit_number x + bit_number (v b))) (h.has v before) ∙ same v before);
    }

-- the net where more gates are appended behind
pub computed_kept : (old now new : GateList) (ins inner : List ℕ) (n : ℕ) (bit : (ℕ → Bool) → Bool) → AreAllowed ins (net_count old) inner → Extends now new → ReadsInputsAlone now new inner → IsComputed old now ins n bit → IsComputed old new ins n bit
computed_kept old now new ins inner n bit allowed grown reads h = record {
  extends = extends_further old now new h.extends grown;
  reads = reads_further old now new ins inner h.extends grown allowed h.reads reads;
  known = h.known;
  below = let k = count_grows now new grown in let b = h.below in omega arith;
  has = λ v answers. h.has v (answers_in_front old now new v grown answers);
}

-- the same over more nets
pub computed_wider : (old new : GateList) (ins others : List ℕ) (n : ℕ) (bit : (ℕ → Bool) → Bool) → AreAllowed others (net_count old) ins → IsComputed old new ins n bit → IsComputed old new others n bit
computed_wider old new ins others n bit allowed h = record {
  extends = h.extends;
  reads = reads_over old new others ins allowed h.reads;
  known = elim h.known [ inl d ↦ allowed n d | inr low ↦ inr low ];
  below = h.below;
  has = h.has;
}

-- ---- a row of nets

pub none_computed : (old now : GateList) (ins : List ℕ) → Extends old now → ReadsInputsAlone old now ins → AreComputed old now ins [] (λ v. [])
none_computed old now ins grown reads = record {
  extends = grown;
  reads = reads;
  known = λ n c. absurd (let h = c.1 in omega arith);
  below = tt;
  has = λ v a. refl;
}

pub all_push : (P Q : ℕ → Type 0) (ns : List ℕ) (n : ℕ) → ((k : ℕ) → P k → Q k) → AllByRecursion P ns → Q n → AllByRecursion Q (ns ++ n ∷ [])
all_push P Q [] n more all here = (here, tt)
all_push P Q (k ∷ ns) n more all here = (more k all.0, all_push P Q ns n more all.1 here)

pushed_cases : (ns : List ℕ) (n k : ℕ) → Contains (ns ++ n ∷ []) k → Contains ns k ⊎ (n ≡ k)
pushed_cases [] n k c = elim (contains_cases n k [] c) [ inl e ↦ inr e | inr d ↦ absurd (let h = d.1 in omega arith) ]
pushed_cases (x ∷ ns) n k c = elim (contains_cases x k (ns ++ n ∷ []) c) [
  | inl e ↦ inl (0, omega arith, e)
  | inr d ↦ elim (pushed_cases ns n k d) [ inl f ↦ inl (suc f.0, let h = f.1 in omega arith, f.2) | inr e ↦ inr e ]
]

-- one net more, over nets that are given or appended
pub more_computed : (old now new : GateList) (ins inner nets : List ℕ) (n : ℕ) (bits others : (ℕ → Bool) → List Bool) (bit : (ℕ → Bool) → Bool)
    → AreAllowed ins (net_count old) inner
    → ((v : ℕ → Bool) → AnswersWithin new (net_count old) (net_count new) v → bits v ++ bit v ∷ [] ≡ others v)
    → AreComputed old now ins nets bits → IsComputed now new inner n bit → AreComputed old new ins (nets ++ n ∷ []) others
more_computed old now new ins inner nets n bits others bit allowed same h one =
    let front = count_grows old now h.extends in
    let later = count_grows now new one.extends in
    record {
      extends = extends_further old now new h.extends one.extends;
      reads = reads_further old now new ins inner h.extends one.extends allowed h.reads one.reads;
      known = λ k c. elim (pushed_cases nets n k c) [
        | inl d ↦ h.known k d
        | inr e ↦ subst (λ (j : ℕ). Contains ins j ⊎ (net_count old ≤ j)) e (elim one.known [ inl d ↦ allowed n d | inr low ↦ inr (omega arith) ])
      ];
      below = all_push (λ k. k < net_count now) (λ k. k < net_count new) nets n (λ k less. omega arith) h.below one.below;
      has = λ v answers.
          map_push v nets n
          ∙ (ap₂ (λ (bs : List Bool) (b : Bool). bs ++ b ∷ []) (h.has v (answers_in_front old now new v one.extends answers)) (one.has v (answers_behind old now new v h.extends answers))
          ∙ same v answers);
    }

-- the bits of nets where more gates are appended behind
pub front_bits : (old mid new : GateList) (ins nets : List ℕ) (bits : (ℕ → Bool) → List Bool) → AreComputed old mid ins nets bits → Extends mid new → (v : ℕ → Bool) → AnswersWithin new (net_count old) (net_count new) v → map v nets ≡ bits v
front_bits old mid new ins nets bits h grown v answers = h.has v (answers_in_front old mid new v grown answers)

-- the nets of one call behind the gates of another
pub computed_behind : (old mid new : GateList) (ins inner front nets : List ℕ) (first bits others : (ℕ → Bool) → List Bool) → AreAllowed ins (net_count old) inner
    → ((v : ℕ → Bool) → map v front ≡ first v → bits v ≡ others v)
    → AreComputed old mid ins front first → AreComputed mid new inner nets bits → AreComputed old new ins nets others
computed_behind old mid new ins inner front nets first bits others allowed same a b =
    let low = count_grows old mid a.extends in
    record {
      extends = extends_further old mid new a.extends b.extends;
      reads = reads_further old mid new ins inner a.extends b.extends allowed a.reads b.reads;
      known = λ n c. elim (b.known n c) [ inl d ↦ allowed n d | inr late ↦ inr (omega arith) ];
      below = b.below;
      has = λ v answers. b.has v (answers_behind old mid new v a.extends answers) ∙ same v (front_bits old mid new ins front first a b.extends v answers);
    }

-- ---- under other names

pub computed_as : (old now new : GateList) (ins : List ℕ) (n m : ℕ) (bit : (ℕ → Bool) → Bool) → now ≡ new → n ≡ m → IsComputed old new ins m bit → IsComputed old now ins n bit
computed_as old now new ins n m bit e f h = subst (λ (net : GateList). IsComputed old net ins n bit) (sym e) (subst (λ (k : ℕ). IsComputed old new ins k bit) (sym f) h)

pub extends_as : (old now new : GateList) → new ≡ now → Extends old now → Extends old new
extends_as old now new e h = subst (λ (net : GateList). Extends old net) (sym e) h

pub below_later : (old now : GateList) (n : ℕ) → Extends old now → n < net_count old → n < net_count now
below_later old now n e h = let k = count_grows old now e in omega arith

pub count_pushed : (old new : GateList) (g : GateForm) → new ≡ record old { gates = old.gates ++ g ∷ [] } → net_count new ≡ net_count old + 1
count_pushed old new g pushed = let long = length-append old.gates (g ∷ []) in let e = ap net_count pushed in omega arith

pub nets_as : (old new : GateList) (ins nets others : List ℕ) (bits : (ℕ → Bool) → List Bool) → nets ≡ others → AreComputed old new ins others bits → AreComputed old new ins nets bits
nets_as old new ins nets others bits e h = subst (λ (ns : List ℕ). AreComputed old new ins ns bits) (sym e) h

pub bits_as : (old new : GateList) (ins nets : List ℕ) (bits others : (ℕ → Bool) → List Bool) → ((v : ℕ → Bool) → bits v ≡ others v) → AreComputed old new ins nets bits → AreComputed old new ins nets others
bits_as old new ins nets bits others same h = record { extends = h.extends; reads = h.reads; known = h.known; below = h.below; has = λ v a. h.has v a ∙ same v }
