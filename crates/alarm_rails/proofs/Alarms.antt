-- The gates of an alarm: how far they come, what they read, where they lead, and what they answer.
use Rattle.std.proofs.Common.{◌≡◌, sym, ◌∙◌, ap, subst, refl, ℕ, zero, suc, ◌+◌, ◌-◌, ◌*◌, ◌<◌, ◌≤◌, ◌⊎◌, inl, inr, Bool, true, false, List, [], ◌∷◌, ◌++◌, length, map, take, Contains, arith, Some, slice_get}
use Rattle.std.specs.Prelude.{◌||◌}
use Rattle.std.specs.List.{AllByRecursion, list_any}
use Rattle.std.proofs.lemmas.List.{length-append, append_assoc}
use Rattle.netlist_spec.specs.Covers.{differ, has_bit, parity}
use Rattle.netlist_spec.specs.Gates.{GateForm, two, GateList, bit_number, gate_answer, gate_reads}
use Rattle.gate_net.specs.GateNet.{net_count}
use Rattle.cone_split.proofs.Cells.{contains_head, contains_tail, all_contains}
use Rattle.cone_split.proofs.Ranges.{get_left, get_right, get_cases}
use Rattle.alarm_rails.specs.Syndromes.{SyndromeBit, added_gates, whole_sum, alarm_gates}
use Rattle.alarm_rails.proofs.Sums.{grown, grown_count, added_length, added_reads, added_fed, sum_value}

-- the number of gates for some bits of syndromes
abbrev pub cells : List SyndromeBit → ℕ
cells [] = 0
cells (s ∷ ss) = length s.places + 1 + cells ss

pub cells_append : (ss ts : List SyndromeBit) → cells (ss ++ ts) ≡ cells ss + cells ts
cells_append [] ts = omega arith
cells_append (s ∷ ss) ts = let h = cells_append ss ts in omega arith

pub cells_at : (ss : List SyndromeBit) (i : ℕ) (s : SyndromeBit) → slice_get ss i ≡ Some s → cells (take i ss) + length s.places + 1 ≤ cells ss
cells_at [] i s e = cc e
cells_at (r ∷ ss) zero s e = let same : r ≡ s = cc e in let l = ap (λ (x : SyndromeBit). length x.places) same in omega arith
cells_at (r ∷ ss) (suc i) s e = let h = cells_at ss i s e in omega arith

-- the gates of the first of some bits, and those of the others
module _ (alarm : ℕ) (s : SyndromeBit) (ss : List SyndromeBit) where
  abbrev next : ℕ
  next = alarm + 1 + length s.places

  abbrev sum : List GateForm
  sum = added_gates (alarm + 1) s.check s.places

  abbrev whole : ℕ
  whole = whole_sum (alarm + 1) s.check s.places

  abbrev joined : GateForm
  joined = two 14 alarm whole

  abbrev rest : List GateForm
  rest = alarm_gates next ss

  sum_long : length sum ≡ length s.places
  sum_long = added_length (alarm + 1) s.check s.places

  all_long : length (sum ++ joined ∷ rest) ≡ length s.places + 1 + length rest
  all_long = let l = length-append sum (joined ∷ rest) in let a = sum_long in omega arith

  at_joined : slice_get (sum ++ joined ∷ rest) (length sum) ≡ Some joined
  at_joined = ap (slice_get (sum ++ joined ∷ rest)) (let z : length sum ≡ length sum + 0 = omega arith in z) ∙ get_right sum (joined ∷ rest) 0

pub alarm_length : (alarm : ℕ) (ss : List SyndromeBit) → length (alarm_gates alarm ss) ≡ cells ss
alarm_length alarm [] = refl
alarm_length alarm (s ∷ ss) = let l = all_long alarm s ss in let h = alarm_length (next alarm s ss) ss in omega arith

pub alarm_append : (alarm : ℕ) (ss ts : List SyndromeBit) → alarm_gates alarm (ss ++ ts) ≡ alarm_gates alarm ss ++ alarm_gates (alarm + cells ss) ts
alarm_append alarm [] ts = ap (λ (a : ℕ). alarm_gates a ts) (let z : alarm ≡ alarm + 0 = omega arith in z)
alarm_append alarm (s ∷ ss) ts =
    ap (λ (gs : List GateForm). sum alarm s ss ++ joined alarm s ss ∷ gs) (alarm_append (next alarm s ss) ss ts ∙ ap (λ (a : ℕ). rest alarm s ss ++ alarm_gates a ts) (let z : next alarm s ss + cells ss ≡ alarm + cells (s ∷ ss) = omega arith in z))
    ∙ sym (append_assoc (sum alarm s ss) (joined alarm s ss ∷ rest alarm s ss) (alarm_gates (alarm + cells (s ∷ ss)) ts))

-- one bit more
pub alarm_step : (old now mid new : GateList) (start alarm bit : ℕ) (ss all : List SyndromeBit) (s : SyndromeBit) → net_count old ≡ start + 1 → now ≡ record old { gates = old.gates ++ alarm_gates start ss } → net_count now ≡ alarm + 1
    → mid ≡ record now { gates = now.gates ++ added_gates (net_count now) s.check s.places } → bit ≡ whole_sum (net_count now) s.check s.places → new ≡ record mid { gates = mid.gates ++ two 14 alarm bit ∷ [] } → all ≡ ss ++ s ∷ []
    → new ≡ record old { gates = old.gates ++ alarm_gates start all }
alarm_step old now mid new start alarm bit ss all s begin so_far here sum is more whole =
    let far = grown_count old now (alarm_gates start ss) so_far in
    let long = alarm_length start ss in
    let at : alarm ≡ start + cells ss = omega arith in
    let pushed : added_gates (net_count now) s.check s.places ++ two 14 alarm bit ∷ [] ≡ alarm_gates (start + cells ss) (s ∷ [])
    = ap (λ (b : ℕ). added_gates (net_count now) s.check s.places ++ two 14 alarm b ∷ []) is
    ∙ (ap (λ (n : ℕ). added_gates n s.check s.places ++ two 14 alarm (whole_sum n s.check s.places) ∷ []) here
    ∙ ap (λ (a : ℕ). added_gates (a + 1) s.check s.places ++ two 14 a (whole_sum (a + 1) s.check s.places) ∷ []) at) in
    grown old now new (alarm_gates start ss) (added_gates (net_count now) s.check s.places ++ two 14 alarm bit ∷ []) (alarm_gates start all) so_far
    (grown now mid new (added_gates (net_count now) s.check s.places) (two 14 alarm bit ∷ []) (added_gates (net_count now) s.check s.places ++ two 14 alarm bit ∷ []) sum more refl)
    (ap (alarm_gates start) whole ∙ (alarm_append start ss (s ∷ []) ∙ ap (λ (gs : List GateForm). alarm_gates start ss ++ gs) (sym pushed)))

-- ---- what the gates read

-- the nets of a bit
abbrev pub Holds : (ℕ → Type 0) → SyndromeBit → Type 0
Holds P s = P s.check × AllByRecursion P s.places

last_place : (first so_far : ℕ) (ns : List ℕ) → so_far < first → (so_far ≤ whole_sum first so_far ns) × (whole_sum first so_far ns < first + length ns)
last_place first so_far [] h = (omega arith, omega arith)
last_place first so_far (n ∷ ns) h = let k = last_place (first + 1) first ns (omega arith) in (let x = k.0 in omega arith, let y = k.1 in omega arith)

two_nets : (a b n : ℕ) → Contains (a ∷ b ∷ []) n → (n ≡ a) ⊎ (n ≡ b)
two_nets a b n (zero, h, e) = inl (sym e)
two_nets a b n (suc zero, h, e) = inr (sym e)
two_nets a b n (suc (suc j), h, e) = absurd (omega arith)

module _ (P : ℕ → Type 0) where
  abbrev IsKnown : ℕ → ℕ → ℕ → Type 0
  IsKnown alarm i k = P k ⊎ ((alarm ≤ k) × (k < alarm + 1 + i))

  whole_known : (alarm check : ℕ) (ns : List ℕ) → P check → IsKnown alarm (length ns) (whole_sum (alarm + 1) check ns)
  whole_known alarm check [] p = inl p
  whole_known alarm check (n ∷ ns) p = let k = last_place (alarm + 1 + 1) (alarm + 1) ns (omega arith) in inr (let x = k.0 in omega arith, let y = k.1 in omega arith)

  module _ (alarm : ℕ) (s : SyndromeBit) (ss : List SyndromeBit) (all : Holds P s) where
    sum_known : (i k : ℕ) (g : GateForm) → slice_get (sum alarm s ss) i ≡ Some g → Contains (gate_reads g) k → IsKnown alarm i k
    sum_known i k g at c = elim (added_reads (alarm + 1) s.check s.places i k g at c) [
      | inl h ↦ inl (subst P (sym h) all.0)
      | inr (inl d) ↦ inl (all_contains P s.places k all.1 d)
      | inr (inr d) ↦ inr (let x = d.0 in omega arith, let y = d.1 in omega arith)
    ]

    joined_known : (k : ℕ) (g : GateForm) → joined alarm s ss ≡ g → Contains (gate_reads g) k → IsKnown alarm (length s.places) k
    joined_known k g same c =
        elim (two_nets alarm (whole alarm s ss) k (subst (λ (x : GateForm). Contains (gate_reads x) k) (sym same) c)) [
          | inl e ↦ inr (omega arith, omega arith)
          | inr e ↦ subst (λ (m : ℕ). IsKnown alarm (length s.places) m) (sym e) (whole_known alarm s.check s.places all.0)
        ]

    all_known : ((i k : ℕ) (g : GateForm) → slice_get (rest alarm s ss) i ≡ Some g → Contains (gate_reads g) k → IsKnown (next alarm s ss) i k)
        → (i k : ℕ) (g : GateForm) → slice_get (sum alarm s ss ++ joined alarm s ss ∷ rest alarm s ss) i ≡ Some g → Contains (gate_reads g) k → IsKnown alarm i k
    all_known behind i k g e c = elim (get_cases (sum alarm s ss) (joined alarm s ss ∷ rest alarm s ss) i g e) [
      | inl at ↦ sum_known i k g at c
      | inr (j, place, at) ↦ by_place j at place
    ]
      where
        by_place : (j : ℕ) → slice_get (joined alarm s ss ∷ rest alarm s ss) j ≡ Some g → i ≡ length (sum alarm s ss) + j → IsKnown alarm i k
        by_place zero at place =
            let l = sum_long alarm s ss in
            subst (λ (n : ℕ). IsKnown alarm n k) (let z : length s.places ≡ i = omega arith in z) (joined_known k g (cc at) c)
        by_place (suc j) at place = let l = sum_long alarm s ss in elim (behind j k g at c) [
          | inl p ↦ inl p
          | inr q ↦ inr (let x = q.0 in omega arith, let y = q.1 in omega arith)
        ]

  pub alarm_reads : (alarm : ℕ) (ss : List SyndromeBit) → AllByRecursion (Holds P) ss → (i k : ℕ) (g : GateForm) → slice_get (alarm_gates alarm ss) i ≡ Some g → Contains (gate_reads g) k → P k ⊎ ((alarm ≤ k) × (k < alarm + 1 + i))
  alarm_reads alarm [] all i k g e c = cc e
  alarm_reads alarm (s ∷ ss) all i k g e c = all_known alarm s ss all.0 (λ j m h at d. alarm_reads (next alarm s ss) ss all.1 j m h at d) i k g e c

-- ---- where the gates lead

-- net n is read by a gate behind it
abbrev IsFed : ℕ → List GateForm → ℕ → Type 0
IsFed alarm gs n = (p : ℕ) × (g : GateForm) × (slice_get gs p ≡ Some g) × Contains (gate_reads g) n × (n ≤ alarm + p)

place_of : (n a len : ℕ) → a ≤ n → (n ≡ a) ⊎ (((j : ℕ) × (j < len) × (n ≡ a + 1 + j)) ⊎ (a + 1 + len ≤ n))
place_of n a len h = by_place (order n (a + 1 + len)) (order n (a + 1))
  where
    order : (x y : ℕ) → (x < y) ⊎ (y ≤ x)
    order x y = grind arith

    by_place : (n < a + 1 + len) ⊎ (a + 1 + len ≤ n) → (n < a + 1) ⊎ (a + 1 ≤ n) → (n ≡ a) ⊎ (((j : ℕ) × (j < len) × (n ≡ a + 1 + j)) ⊎ (a + 1 + len ≤ n))
    by_place (inr k) o = inr (inr k)
    by_place (inl k) (inl m) = inl (omega arith)
    by_place (inl k) (inr m) = inr (inl (n - (a + 1), omega arith, omega arith))

module _ (alarm : ℕ) (s : SyndromeBit) (ss : List SyndromeBit) (n : ℕ) where
  abbrev Fed : Type 0
  Fed = IsFed alarm (sum alarm s ss ++ joined alarm s ss ∷ rest alarm s ss) n

  by_joined : Contains (alarm ∷ whole alarm s ss ∷ []) n → n ≤ alarm + length s.places → Fed
  by_joined c h = let l = sum_long alarm s ss in (length (sum alarm s ss), joined alarm s ss, at_joined alarm s ss, c, omega arith)

  by_sum : (j : ℕ) → j < length s.places → n ≡ alarm + 1 + j → Fed
  by_sum j h e = elim (added_fed (alarm + 1) s.check s.places j h) [
    | inl (g, at, c) ↦ (suc j, g, get_left (sum alarm s ss) (joined alarm s ss ∷ rest alarm s ss) (suc j) g at, subst (λ (q : ℕ). Contains (gate_reads g) q) (sym e) c, omega arith)
    | inr f ↦ by_joined (subst (λ (q : ℕ). Contains (alarm ∷ whole alarm s ss ∷ []) q) (f ∙ sym e) (contains_tail alarm (whole alarm s ss) (whole alarm s ss ∷ []) (contains_head (whole alarm s ss) []))) (omega arith)
  ]

  by_rest : IsFed (next alarm s ss) (rest alarm s ss) n → Fed
  by_rest (p, g, at, c, h) = let l = sum_long alarm s ss in (length (sum alarm s ss) + suc p, g, get_right (sum alarm s ss) (joined alarm s ss ∷ rest alarm s ss) (suc p) ∙ at, c, omega arith)

-- the alarm in front and each gate but the last is read by a gate behind
pub alarm_fed : (alarm : ℕ) (ss : List SyndromeBit) (n : ℕ) → alarm ≤ n → n < alarm + length (alarm_gates alarm ss) → (p : ℕ) × (g : GateForm) × (slice_get (alarm_gates alarm ss) p ≡ Some g) × Contains (gate_reads g) n × (n ≤ alarm + p)
alarm_fed alarm [] n low high = absurd (omega arith)
alarm_fed alarm (s ∷ ss) n low high =
    let l = all_long alarm s ss in
    elim (place_of n alarm (length s.places) low) [
      | inl e ↦ by_joined alarm s ss n (subst (λ (q : ℕ). Contains (alarm ∷ whole alarm s ss ∷ []) q) (sym e) (contains_head alarm (whole alarm s ss ∷ []))) (omega arith)
      | inr (inl (j, h, e)) ↦ by_sum alarm s ss n j h e
      | inr (inr h) ↦ by_rest alarm s ss n (alarm_fed (next alarm s ss) ss n h (omega arith))
    ]

-- ---- what the gates answer

-- the bit of a syndrome
abbrev pub is_set : (ℕ → Bool) → SyndromeBit → Bool
is_set v s = differ (v s.check) (parity (map v s.places))

either_bit : (x y : Bool) → has_bit 14 (2 * bit_number x + bit_number y) ≡ (x || y)
either_bit false false = refl
either_bit false true = refl
either_bit true false = refl
either_bit true true = refl

or_none : (x : Bool) → x ≡ (x || false)
or_none false = refl
or_none true = refl

or_assoc : (x y z : Bool) → ((x || y) || z) ≡ (x || (y || z))
or_assoc false y z = refl
or_assoc true y z = refl

module _ (v : ℕ → Bool) where
  abbrev Answers : ℕ → List GateForm → Type 0
  Answers first gs = (i : ℕ) (g : GateForm) → slice_get gs i ≡ Some g → v (first + i) ≡ gate_answer g v

  module _ (alarm : ℕ) (s : SyndromeBit) (ss : List SyndromeBit) (answers : Answers (alarm + 1) (sum alarm s ss ++ joined alarm s ss ∷ rest alarm s ss)) where
    sum_answers : Answers (alarm + 1) (sum alarm s ss)
    sum_answers i g e = answers i g (get_left (sum alarm s ss) (joined alarm s ss ∷ rest alarm s ss) i g e)

    rest_answers : Answers (next alarm s ss + 1) (rest alarm s ss)
    rest_answers i g e =
        let l = sum_long alarm s ss in
        ap v (let z : next alarm s ss + 1 + i ≡ alarm + 1 + (length (sum alarm s ss) + suc i) = omega arith in z)
        ∙ answers (length (sum alarm s ss) + suc i) g (get_right (sum alarm s ss) (joined alarm s ss ∷ rest alarm s ss) (suc i) ∙ e)

    joined_value : v (next alarm s ss) ≡ (v alarm || is_set v s)
    joined_value =
        let l = sum_long alarm s ss in
        ap v (let z : next alarm s ss ≡ alarm + 1 + length (sum alarm s ss) = omega arith in z)
        ∙ (answers (length (sum alarm s ss)) (joined alarm s ss) (at_joined alarm s ss)
        ∙ (either_bit (v alarm) (v (whole alarm s ss))
        ∙ ap (λ (x : Bool). v alarm || x) (sum_value v (alarm + 1) s.check s.places sum_answers)))

  pub alarm_value : (alarm : ℕ) (ss : List SyndromeBit) → Answers (alarm + 1) (alarm_gates alarm ss) → v (alarm + cells ss) ≡ (v alarm || list_any (is_set v) ss)
  alarm_value alarm [] answers = ap v (let z : alarm + 0 ≡ alarm = omega arith in z) ∙ or_none (v alarm)
  alarm_value alarm (s ∷ ss) answers =
      ap v (let z : alarm + cells (s ∷ ss) ≡ next alarm s ss + cells ss = omega arith in z)
      ∙ (alarm_value (next alarm s ss) ss (rest_answers alarm s ss answers)
      ∙ (ap (λ (x : Bool). x || list_any (is_set v) ss) (joined_value alarm s ss answers) ∙ or_assoc (v alarm) (is_set v s) (list_any (is_set v) ss)))
