-- The gates of a range: their answers and what they read.
use Rattle.std.proofs.Common.{◌≡◌, sym, ◌∙◌, ap, ap₂, refl, ℕ, zero, suc, ◌+◌, ◌-◌, ◌*◌, ◌<◌, ◌≤◌, ◌⊎◌, inl, inr, Bool, false, List, [], ◌∷◌, ◌++◌, length, map, get_or, Contains, arith, Some, slice_get}
use Rattle.std.specs.List.{AllByRecursion, enumerate_from}
use Rattle.std.proofs.lemmas.Option.{slice_get-get_or, slice_get_within}
use Rattle.std.proofs.lemmas.List.{length-append}
use Rattle.netlist_spec.specs.Covers.{differ, has_bit}
use Rattle.netlist_spec.specs.Gates.{GateForm, constant, one, two, GateList, IsGateList, AnswersWithin, IsEvaluation, ReadsNet, bit_number, gate_answer, gate_reads}
use Rattle.netlist_spec.specs.SourceRun.{Bits}
use Rattle.netlist_spec.specs.GateRanges.{Region, LiesIn, LeadsToEnd, is_end, is_read}
use Rattle.gate_net.specs.GateNet.{net_count}
use Rattle.cone_split.specs.Ranges.{ReadsAlone, AllLead}
use Rattle.cone_split.proofs.Cells.{contains_head, contains_tail, contains_cases}
use Rattle.cone_split.proofs.Copied.{net_reads_below}

-- ---- elements of joined lists

pub get_right : {X : Type 0} (xs ys : List X) (i : ℕ) → slice_get (xs ++ ys) (length xs + i) ≡ slice_get ys i
get_right [] ys i = ap (slice_get ys) (let e : 0 + i ≡ i = omega arith in e)
get_right (x ∷ xs) ys i = ap (slice_get (x ∷ (xs ++ ys))) (let e : length (x ∷ xs) + i ≡ suc (length xs + i) = omega arith in e) ∙ get_right xs ys i

pub get_left : {X : Type 0} (xs ys : List X) (i : ℕ) (x : X) → slice_get xs i ≡ Some x → slice_get (xs ++ ys) i ≡ Some x
get_left [] ys i x e = cc e
get_left (a ∷ xs) ys zero x e = e
get_left (a ∷ xs) ys (suc i) x e = get_left xs ys i x e

pub get_cases : {X : Type 0} (xs ys : List X) (i : ℕ) (x : X) → slice_get (xs ++ ys) i ≡ Some x → (slice_get xs i ≡ Some x) ⊎ ((j : ℕ) × (i ≡ length xs + j) × (slice_get ys j ≡ Some x))
get_cases [] ys i x e = inr (i, omega arith, e)
get_cases (a ∷ xs) ys zero x e = inl e
get_cases (a ∷ xs) ys (suc i) x e = elim (get_cases xs ys i x e) [ inl h ↦ inl h | inr h ↦ inr (h.0, (let f = h.1 in omega arith), h.2) ]

-- ---- answers

-- the answer of the gate at a place
pub answer_at : (gs : List GateForm) (k first end : ℕ) (v : ℕ → Bool) (i : ℕ) (g : GateForm) → AllByRecursion (λ (p : ℕ × GateForm). first ≤ p.0 → p.0 < end → v p.0 ≡ gate_answer p.1 v) (enumerate_from k gs) → slice_get gs i ≡ Some g → first ≤ k + i → k + i < end → v (k + i) ≡ gate_answer g v
answer_at [] k first end v i g all e low high = cc e
answer_at (x ∷ gs) k first end v zero g all e low high =
    let same : x ≡ g = cc e in
    ap v (let z : k + 0 ≡ k = omega arith in z) ∙ (all.0 (omega arith) (omega arith) ∙ ap (λ (h : GateForm). gate_answer h v) same)
answer_at (x ∷ gs) k first end v (suc i) g all e low high =
    ap v (let z : k + suc i ≡ k + 1 + i = omega arith in z) ∙ answer_at gs (k + 1) first end v i g all.1 e (omega arith) (omega arith)

-- a gate's answer rests on the nets that it reads
pub gate_agrees : (g : GateForm) (v w : ℕ → Bool) → ((k : ℕ) → Contains (gate_reads g) k → v k ≡ w k) → gate_answer g v ≡ gate_answer g w
gate_agrees (constant b) v w same = refl
gate_agrees (one inv a) v w same = ap (differ inv) (same a (contains_head a []))
gate_agrees (two op a b) v w same = ap₂ (λ x y. has_bit op (2 * bit_number x + bit_number y)) (same a (contains_head a (b ∷ []))) (same b (contains_tail a b (b ∷ []) (contains_head b [])))

-- the same bits at given nets
same_at : (v w : ℕ → Bool) (ns : List ℕ) (k : ℕ) → map v ns ≡ map w ns → Contains ns k → v k ≡ w k
same_at v w [] k e c = absurd (let h = c.1 in omega arith)
same_at v w (n ∷ ns) k e c =
    let head : v n ≡ w n = cc e in
    let tail : map v ns ≡ map w ns = cc e in
    elim (contains_cases n k ns c) [ inl h ↦ ap v (sym h) ∙ (head ∙ ap w h) | inr d ↦ same_at v w ns k tail d ]

-- ---- a range answers alone

module _ (net : GateList) (leaf : List ℕ) (r : Region) (well : IsGateList net) (low : net.leaves ≤ r.first) (high : r.end ≤ net_count net) (alone : ReadsAlone net leaf r) (v w : ℕ → Bool) (av : AnswersWithin net r.first r.end v) (aw : AnswersWithin net r.first r.end w) (same : map v leaf ≡ map w leaf) where
  below_same : (bound n : ℕ) → n < bound → LiesIn r n → v n ≡ w n
  below_same zero n h lies = absurd (omega arith)
  below_same (suc bound) n h lies = here (λ k less inside. below_same bound k (omega arith) inside)
    where
      here : ((k : ℕ) → k < n → LiesIn r k → v k ≡ w k) → v n ≡ w n
      here before =
          let a = lies.0 in
          let b = lies.1 in
          let i = n - net.leaves in
          let g = get_or net.gates i (constant false) in
          let is_gate = slice_get-get_or net.gates i (constant false) (omega arith) in
          let number : net.leaves + i ≡ n = omega arith in
          let read : (k : ℕ) → Contains (gate_reads g) k → ReadsNet net n k = λ k c. record { place = i; number = sym number; gate = g; is_gate = is_gate; reads = c } in
          ap v (sym number)
          ∙ (answer_at net.gates net.leaves r.first r.end v i g av is_gate (omega arith) (omega arith)
          ∙ (gate_agrees g v w (λ k c. elim (alone n k lies (read k c)) [ inl d ↦ same_at v w leaf k same d | inr d ↦ before k (net_reads_below net n k well (read k c)) d ])
          ∙ (sym (answer_at net.gates net.leaves r.first r.end w i g aw is_gate (omega arith) (omega arith)) ∙ ap w number)))

  pub range_same : (n : ℕ) → LiesIn r n → v n ≡ w n
  range_same n lies = below_same (suc n) n (omega arith) lies

-- ---- a longer list

pub reads_longer : (net : GateList) (more : List GateForm) (n k : ℕ) → ReadsNet net n k → ReadsNet (record net { gates = net.gates ++ more }) n k
reads_longer net more n k r = record { place = r.place; number = r.number; gate = r.gate; is_gate = get_left net.gates more r.place r.gate r.is_gate; reads = r.reads }

reads_shorter : (net : GateList) (more : List GateForm) (n k : ℕ) → n < net_count net → ReadsNet (record net { gates = net.gates ++ more }) n k → ReadsNet net n k
reads_shorter net more n k h r =
    elim (get_cases net.gates more r.place r.gate r.is_gate) [
      | inl e ↦ record { place = r.place; number = r.number; gate = r.gate; is_gate = e; reads = r.reads }
      | inr e ↦ absurd (let f = r.number in let d = e.1 in omega arith)
    ]

pub alone_longer : (net : GateList) (more : List GateForm) (leaf : List ℕ) (r : Region) → r.end ≤ net_count net → ReadsAlone net leaf r → ReadsAlone (record net { gates = net.gates ++ more }) leaf r
alone_longer net more leaf r h alone n k lies reads = alone n k lies (reads_shorter net more n k (let b = lies.1 in omega arith) reads)

leads_longer : (net : GateList) (more : List GateForm) (r : Region) (n : ℕ) → LeadsToEnd net r n → LeadsToEnd (record net { gates = net.gates ++ more }) r n
leads_longer net more r n (is_end e) = is_end e
leads_longer net more r n (is_read {n = m} {k = k} inside reads to) = is_read inside (reads_longer net more k m reads) (leads_longer net more r k to)

pub all_lead_longer : (net : GateList) (more : List GateForm) (r : Region) → AllLead net r → AllLead (record net { gates = net.gates ++ more }) r
all_lead_longer net more r all n lies = leads_longer net more r n (all n lies)

front_answers : (gs more : List GateForm) (k first end past : ℕ) (v : ℕ → Bool) → end ≤ past → AllByRecursion (λ (p : ℕ × GateForm). first ≤ p.0 → p.0 < past → v p.0 ≡ gate_answer p.1 v) (enumerate_from k (gs ++ more)) → AllByRecursion (λ (p : ℕ × GateForm). first ≤ p.0 → p.0 < end → v p.0 ≡ gate_answer p.1 v) (enumerate_from k gs)
front_answers [] more k first end past v h all = tt
front_answers (g ∷ gs) more k first end past v h all = (λ low high. all.0 low (omega arith), front_answers gs more (k + 1) first end past v h all.1)

pub evaluation_shorter : (net : GateList) (more : List GateForm) (leaves : Bits) (v : ℕ → Bool) → IsEvaluation (record net { gates = net.gates ++ more }) leaves v → IsEvaluation net leaves v
evaluation_shorter net more leaves v e = record {
  inputs = e.inputs;
  gates = (let l = length-append net.gates more in front_answers net.gates more net.leaves net.leaves (net_count net) (net.leaves + length (net.gates ++ more)) v (omega arith) e.gates);
}

-- ---- gates behind a list

module _ (old : GateList) (rs : List GateForm) where
  abbrev pub longer : GateList
  longer = record old { gates = old.gates ++ rs }

  pub longer_count : net_count longer ≡ net_count old + length rs
  longer_count = let l = length-append old.gates rs in omega arith

  pub behind_answers : (v : ℕ → Bool) (i : ℕ) (g : GateForm) → AnswersWithin longer (net_count old) (net_count longer) v → slice_get rs i ≡ Some g → v (net_count old + i) ≡ gate_answer g v
  behind_answers v i g all e =
      let h = slice_get_within rs i g e in
      let l = longer_count in
      let z : net_count old + i ≡ old.leaves + (length old.gates + i) = omega arith in
      ap v z ∙ answer_at (old.gates ++ rs) old.leaves (net_count old) (net_count longer) v (length old.gates + i) g all (get_right old.gates rs i ∙ e) (omega arith) (omega arith)

  pub behind_reads : (i k : ℕ) (g : GateForm) → slice_get rs i ≡ Some g → Contains (gate_reads g) k → ReadsNet longer (net_count old + i) k
  behind_reads i k g e c = record { place = length old.gates + i; number = omega arith; gate = g; is_gate = get_right old.gates rs i ∙ e; reads = c }

  pub reads_behind : (n k : ℕ) → net_count old ≤ n → ReadsNet longer n k → (i : ℕ) × (g : GateForm) × (slice_get rs i ≡ Some g) × (n ≡ net_count old + i) × Contains (gate_reads g) k
  reads_behind n k h r = elim (get_cases old.gates rs r.place r.gate r.is_gate) [
    | inl e ↦ absurd (let l = slice_get_within old.gates r.place r.gate e in let f = r.number in omega arith)
    | inr e ↦ (e.0, r.gate, e.2, (let f = r.number in let d = e.1 in omega arith), r.reads)
  ]
