-- Nets of a joined list have the bits of the source's nets, where the shown state words are near those of the state.
use Rattle.std.proofs.Common.{◌≡◌, refl, sym, ◌∙◌, ap, ap₂, subst, ℕ, zero, suc, ◌+◌, ◌-◌, ◌<◌, ◌≤◌, ◌==◌, ◌⊎◌, inl, inr, Bool, true, false, List, [], ◌∷◌, ◌++◌, length, map, get_or, slice_get, Some, arith, Contains, IsTrue, ◌≢◌, ne_eqb, length-append}
use Rattle.std.specs.List.{AllByRecursion, AllZip, flat_map, range_with_len}
use Rattle.std.proofs.lemmas.Option.{slice_get-get_or, slice_get_within}
use Rattle.std.proofs.lemmas.List.{length-map, get_or_append_left, get_or-append-add}
use Rattle.std.proofs.lemmas.List.FromFn.{get_or-map-range_with_len, length-range_with_len}
use Rattle.std.proofs.lemmas.List.Sums.{sum_by-cons}
use Rattle.netlist_spec.specs.SourceRun.{Bits}
use Rattle.netlist_spec.specs.Gates.{constant, gate_reads, GateList, IsGateList, Machine, IsMachine, AnswersWithin, IsEvaluation, ReadsNet}
use Rattle.guard_spec.specs.Codes.{Code, correct}
use Rattle.guard_spec.specs.Words.{Words, Layout, IsPartition, bits_at}
use Rattle.netlist_spec.specs.Cones.{IsGateReached, same_net, read_by}
use Rattle.guard_spec.specs.Count.{StateWordsAre, IsNear}
use Rattle.gate_net.specs.GateNet.{net_count}
use Rattle.gate_net.proofs.Ranges.{narrower}
use Rattle.gate_net.proofs.OneEvaluation.{some_evaluation}
use Rattle.cone_split.proofs.Cells.{contains_head, contains_tail, all_contains}
use Rattle.cone_split.proofs.Copied.{net_reads_below}
use Rattle.cone_split.proofs.Ranges.{answer_at, gate_agrees, get_left, get_right}
use Rattle.containment.proofs.Counting.{number, number_counts, number_append}
use Rattle.guard_laws.specs.Places.{latches_of_words}
use Rattle.correction_laws.specs.Joined.{Corrector, IsCorrector, AreCorrectors, IsJoined, IsServed}
use Rattle.correction_laws.specs.FromJoined.{IsOver}
use Rattle.correction_laws.proofs.Lists.{word_slice, get_in_range}
use Rattle.guard_laws.proofs.Lists.{get_of_map}
use Rattle.guard_laws.proofs.Leaves.{found}

-- ---- the word of a latch

eq_of : (k j : ℕ) → (k == j) ≡ true → (k ≡ j) ⊎ (k ≢ j) → k ≡ j
eq_of k j e (inl same) = same
eq_of k j e (inr other) = let clash : true ≡ false = sym e ∙ ne_eqb k j other in cc clash

-- a corrector whose word holds the latch, and the place of the latch
abbrev pub Holds : List Corrector → ℕ → Type 0
Holds cs j = (c : Corrector) × Contains cs c × ((p : ℕ) × (slice_get c.word p ≡ Some j))

held : (cs : List Corrector) (j : ℕ) → 0 < number (λ k. k == j) (flat_map (λ w. w) (map (λ c. c.word) cs)) → Holds cs j
held [] j h = absurd (omega arith)
held (c ∷ cs) j h = by_place (some_or (number (λ k. k == j) c.word)) (held cs j)
  where
    both : number (λ k. k == j) (c.word ++ flat_map (λ w. w) (map (λ c. c.word) cs)) ≡ number (λ k. k == j) c.word + number (λ k. k == j) (flat_map (λ w. w) (map (λ c. c.word) cs))
    both = number_append (λ k. k == j) c.word (flat_map (λ w. w) (map (λ c. c.word) cs))

    some_or : (n : ℕ) → (0 < n) ⊎ (n ≡ 0)
    some_or zero = inr refl
    some_or (suc n) = inl (omega arith)

    by_place : (0 < number (λ k. k == j) c.word) ⊎ (number (λ k. k == j) c.word ≡ 0) → (0 < number (λ k. k == j) (flat_map (λ w. w) (map (λ c. c.word) cs)) → Holds cs j) → Holds (c ∷ cs) j
    by_place (inl k) later = (c, contains_head c cs, found c.word j k)
    by_place (inr k) later =
        let (d, inside, at) = later (let e = both in omega arith) in
        (d, contains_tail c d cs inside, at)

pub row_up : (net : GateList) (code : Code) (t at from : ℕ) (cs : List Corrector) (end : ℕ) → AreCorrectors net code t at from cs end → from ≤ end
row_up net code t at from [] end row = omega arith
row_up net code t at from (c ∷ cs) end (first, is, rest) = let a = is.order in let b = row_up net code t (at + length c.word + code.columns) c.end cs end rest in omega arith

-- a corrector of the row is one of its word
pub row_has : (net : GateList) (code : Code) (t at from : ℕ) (cs : List Corrector) (end : ℕ) → AreCorrectors net code t at from cs end → AllByRecursion (λ c. (from ≤ c.first) × (c.end ≤ end) × ((k : ℕ) × IsCorrector net code t k c)) cs
row_has net code t at from [] end row = tt
row_has net code t at from (c ∷ cs) end (first, is, rest) =
    let up = row_up net code t (at + length c.word + code.columns) c.end cs end rest in
    let a = is.order in
    ((omega arith, up, (at, is)), lower cs (row_has net code t (at + length c.word + code.columns) c.end cs end rest))
  where
    lower : (ds : List Corrector) → AllByRecursion (λ d. (c.end ≤ d.first) × (d.end ≤ end) × ((k : ℕ) × IsCorrector net code t k d)) ds → AllByRecursion (λ d. (from ≤ d.first) × (d.end ≤ end) × ((k : ℕ) × IsCorrector net code t k d)) ds
    lower [] all = tt
    lower (d ∷ ds) all = ((let a = is.order in let h = all.0.0 in omega arith, all.0.1, all.0.2), lower ds all.1)

-- ---- corrected words

module _ (net : GateList) (code : Code) (t inputs count : ℕ) (u : ℕ → Bool) (s : Bits) (answers : AnswersWithin net net.leaves (net_count net) u) where
  words_right : (at : ℕ) (from : ℕ) (cs : List Corrector) (end : ℕ) → AreCorrectors net code t (inputs + at) from cs end → net.leaves ≤ from → end ≤ net_count net → at + latches_of_words code (map (λ c. c.word) cs) ≤ count
      → StateWordsAre code (IsNear code correct t s) (map (λ c. c.word) cs) (map u (range_with_len inputs count)) at → AllByRecursion (λ c. IsTrue c.serves → map u c.nets ≡ bits_at c.word s) cs
  words_right at from [] end row low high room near = tt
  words_right at from (c ∷ cs) end (first, is, rest) low high room near =
      let total = sum_by-cons (λ w. length w + code.columns) c.word (map (λ c. c.word) cs) in
      let up = row_up net code t ((inputs + at) + length c.word + code.columns) c.end cs end rest in
      let order = is.order in
      let bits = word_slice u inputs count at (length c.word) code.columns (omega arith) in (
        (λ serves. is.value u (bits_at c.word s) serves (narrower net net.leaves (net_count net) c.first c.end u (omega arith) (omega arith) answers) (length-map c.word (λ i. get_or s i false))
            (subst (λ (z : Bits). IsNear code correct t s c.word z) bits near.0)),
        words_right (at + length c.word + code.columns) c.end cs end
            (subst (λ (k : ℕ). AreCorrectors net code t k c.end cs end) (let e : (inputs + at) + length c.word + code.columns ≡ inputs + (at + length c.word + code.columns) = omega arith in e) rest)
            (omega arith) high (omega arith) near.1,
      )

-- ---- two evaluations at leaves that agree where they are reached

module _ (m : Machine) (well : IsGateList m.net) (x : ℕ) (v w : ℕ → Bool) (av : AnswersWithin m.net m.net.leaves (net_count m.net) v) (aw : AnswersWithin m.net m.net.leaves (net_count m.net) w)
    (leaf : (n : ℕ) → n < m.net.leaves → IsGateReached m x n → v n ≡ w n) where
  agree_below : (bound n : ℕ) → n < bound → n < net_count m.net → IsGateReached m x n → v n ≡ w n
  agree_below zero n h inside reached = absurd (omega arith)
  agree_below (suc bound) n h inside reached = here (λ k less reach. agree_below bound k (omega arith) (omega arith) reach) (place (m.net.leaves))
    where
      place : (b : ℕ) → (n < b) ⊎ (b ≤ n)
      place b = grind arith

      here : ((k : ℕ) → k < n → IsGateReached m x k → v k ≡ w k) → (n < m.net.leaves) ⊎ (m.net.leaves ≤ n) → v n ≡ w n
      here before (inl low) = leaf n low reached
      here before (inr high) =
          let i = n - m.net.leaves in
          let g = get_or m.net.gates i (constant false) in
          let is_gate = slice_get-get_or m.net.gates i (constant false) (omega arith) in
          let number : m.net.leaves + i ≡ n = omega arith in
          let read : (k : ℕ) → Contains (gate_reads g) k → ReadsNet m.net n k = λ k c. record { place = i; number = sym number; gate = g; is_gate = is_gate; reads = c } in
          ap v (sym number)
          ∙ (answer_at m.net.gates m.net.leaves m.net.leaves (net_count m.net) v i g av is_gate (omega arith) (omega arith)
          ∙ (gate_agrees g v w (λ k c. before k (net_reads_below m.net n k well (read k c)) (read_by reached (read k c)))
          ∙ (sym (answer_at m.net.gates m.net.leaves m.net.leaves (net_count m.net) w i g aw is_gate (omega arith) (omega arith)) ∙ ap w number)))

  pub agree : (n : ℕ) → n < net_count m.net → IsGateReached m x n → v n ≡ w n
  agree n inside reached = agree_below (suc n) n (omega arith) inside reached

-- ---- the joined list

module _ (source : Machine) (code : Code) (l : Layout) (t k : ℕ) (joined : GateList) (correctors : List Corrector) (nets : List ℕ) (first : ℕ) (is_source : IsMachine source) (partition : IsPartition (length source.latches) k l.state)
    (is : IsJoined source code l t joined correctors nets first) where
  abbrev leaf : List ℕ
  leaf = range_with_len 0 source.inputs ++ nets

  pub leaf_long : length leaf ≡ source.net.leaves
  leaf_long = let a = length-append (range_with_len 0 source.inputs) nets in let b = length-range_with_len 0 source.inputs in let c = is.corrected.count in let d = is_source.leaves in omega arith

  pub holder : (j : ℕ) → j < length source.latches → Holds correctors j
  holder j h =
      held correctors j
      (subst (λ (ws : Words). 0 < number (λ k. k == j) (flat_map (λ w. w) ws)) (sym is.words)
      (let e = partition.each_once j h in let f = number_counts (λ i. i == j) (flat_map (λ w. w) l.state) in omega arith))

  pub of_row : (c : Corrector) → Contains correctors c → (joined.leaves ≤ c.first) × (c.end ≤ first) × ((k : ℕ) × IsCorrector joined code t k c)
  of_row c inside = all_contains _ correctors c (row_has joined code t source.inputs joined.leaves correctors first is.row) inside

  module _ (u w : ℕ → Bool) (x s : Bits) (answers : AnswersWithin joined joined.leaves (net_count joined) u) (inputs : map u (range_with_len 0 source.inputs) ≡ x) (long : length s ≡ length source.latches)
      (near : StateWordsAre code (IsNear code correct t s) l.state (map u (range_with_len source.inputs (latches_of_words code l.state))) 0) (evaluation : IsEvaluation source.net (x ++ s) w) where
    corrected : AllByRecursion (λ c. IsTrue c.serves → map u c.nets ≡ bits_at c.word s) correctors
    corrected =
        let total = is.cells.count in
        words_right joined code t source.inputs (latches_of_words code l.state) u s answers 0 joined.leaves correctors first
        (subst (λ (n : ℕ). AreCorrectors joined code t n joined.leaves correctors first) (let e : source.inputs ≡ source.inputs + 0 = omega arith in e) is.row)
        (omega arith) (omega arith)
        (subst (λ (ws : Words). 0 + latches_of_words code ws ≤ latches_of_words code l.state) (sym is.words) (omega arith))
        (subst (λ (ws : Words). StateWordsAre code (IsNear code correct t s) ws (map u (range_with_len source.inputs (latches_of_words code l.state))) 0) (sym is.words) near)

    latch_right : (j : ℕ) → j < length source.latches → (c : Corrector) → Contains correctors c → IsTrue c.serves → (p : ℕ) → slice_get c.word p ≡ Some j → (n : ℕ) × (slice_get nets j ≡ Some n) × (u n ≡ get_or s j false)
    latch_right j h c inside serves p at =
        let (a, b, (q, good)) = of_row c inside in
        let few = slice_get_within c.word p j at in
        let many = good.count in
        let n = get_or c.nets p 0 in
        let at_n = slice_get-get_or c.nets p 0 (omega arith) in (
          n,
          is.corrected.each c p j n inside at at_n,
          sym (get_of_map u c.nets p n at_n)
              ∙ ap (λ (bs : Bits). get_or bs p false) (all_contains _ correctors c corrected inside serves)
              ∙ get_of_map (λ i. get_or s i false) c.word p j at,
        )

    module _ (root : ℕ) (served : IsServed source correctors root) where
      leaf_bit : (n : ℕ) → n < source.net.leaves → IsGateReached source root n → get_or (map u leaf) n false ≡ get_or (x ++ s) n false
      leaf_bit n h reached = by_place (place source.inputs)
        where
          place : (b : ℕ) → (n < b) ⊎ (b ≤ n)
          place b = grind arith

          x_long : length x ≡ source.inputs
          x_long = sym (ap length inputs) ∙ (length-map (range_with_len 0 source.inputs) u ∙ length-range_with_len 0 source.inputs)

          by_place : (n < source.inputs) ⊎ (source.inputs ≤ n) → get_or (map u leaf) n false ≡ get_or (x ++ s) n false
          by_place (inl low) =
              get_of_map u leaf n n (get_left (range_with_len 0 source.inputs) nets n n (get_in_range 0 source.inputs n low ∙ ap (λ (k : ℕ). Some k) (let e : 0 + n ≡ n = omega arith in e)))
              ∙ (sym (get_of_map u (range_with_len 0 source.inputs) n n (get_in_range 0 source.inputs n low ∙ ap (λ (k : ℕ). Some k) (let e : 0 + n ≡ n = omega arith in e)))
              ∙ (ap (λ (bs : Bits). get_or bs n false) inputs ∙ sym (get_or_append_left x s false n (let e = x_long in omega arith))))
          by_place (inr high) =
              let j = n - source.inputs in
              let number : source.inputs + j ≡ n = omega arith in
              let e = is_source.leaves in
              let (c, inside, (p, at)) = holder j (omega arith) in
              let serves = served c inside (j, (p, slice_get_within c.word p j at, bit_of c.word p j at), subst (λ (q : ℕ). IsGateReached source root q) (sym number) reached) in
              let (m, at_m, right) = latch_right j (omega arith) c inside serves p at in
              let at_leaf : slice_get leaf n ≡ Some m = ap (slice_get leaf) (let f = length-range_with_len 0 source.inputs in let q : n ≡ length (range_with_len 0 source.inputs) + j = omega arith in q) ∙ (get_right (range_with_len 0 source.inputs) nets j ∙ at_m) in
              get_of_map u leaf n m at_leaf ∙ (right ∙ sym (ap (λ (q : ℕ). get_or (x ++ s) q false) (let f = x_long in let q : n ≡ length x + j = omega arith in q) ∙ get_or-append-add x s j false))
            where
              bit_of : (ks : List ℕ) (p j : ℕ) → slice_get ks p ≡ Some j → get_or ks p j ≡ j
              bit_of [] p j e = cc e
              bit_of (k ∷ ks) zero j e = let same : k ≡ j = cc e in same
              bit_of (k ∷ ks) (suc p) j e = bit_of ks p j e

      pub right_at : (m : ℕ) → root < net_count source.net → IsOver source nets first root m → u m ≡ w root
      right_at m is_net over =
          let (u0, e0) = some_evaluation source.net is_source.gates (map u leaf) (length-map leaf u ∙ leaf_long) in
          let total = is.cells.count in
          let start = is.cells.gates in
          let copied = is.cells.value u u0 (narrower joined joined.leaves (net_count joined) first (net_count joined) u start (omega arith) answers) e0 root m is_net over in
          copied ∙ agree source is_source.gates root u0 w e0.gates evaluation.gates
          (λ n h reached.
          sym (get_or-map-range_with_len u0 0 source.net.leaves n n false h (omega arith))
          ∙ (ap (λ (bs : Bits). get_or bs n false) e0.inputs
          ∙ (leaf_bit n h reached
          ∙ (ap (λ (bs : Bits). get_or bs n false) (sym evaluation.inputs) ∙ get_or-map-range_with_len w 0 source.net.leaves n n false h (omega arith)))))
          root is_net same_net

    pub all_right : (roots ms : List ℕ) → AllByRecursion (λ x. x < net_count source.net) roots → AllByRecursion (IsServed source correctors) roots → AllZip (IsOver source nets first) roots ms → map u ms ≡ map w roots
    all_right [] [] below served over = refl
    all_right [] (m ∷ ms) below served over = absurd over
    all_right (r ∷ roots) [] below served over = absurd over
    all_right (r ∷ roots) (m ∷ ms) below served over = ap₂ (λ (b : Bool) (bs : Bits). b ∷ bs) (right_at r served.0 m below.0 over.0) (all_right roots ms below.1 served.1 over.1)
