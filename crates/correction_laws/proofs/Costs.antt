-- The cone of a net of a joined list is at most the net's cone in the source and the correctors of the words that it needs.
use Rattle.std.proofs.Common.{◌≡◌, refl, sym, ◌∙◌, ap, ap₂, subst, ℕ, zero, suc, ◌+◌, ◌-◌, ◌<◌, ◌≤◌, ◌⊎◌, inl, inr, Bool, true, false, cond, List, [], ◌∷◌, ◌++◌, length, map, get_or, slice_get, replicate, Some, arith, Contains}
use Rattle.std.specs.List.{AllZip, range_with_len}
use Rattle.std.proofs.lemmas.Option.{slice_get-get_or, slice_get_within, same_Some}
use Rattle.std.proofs.lemmas.List.{length-append, get_or_append_left, get_or-append-add}
use Rattle.netlist_spec.specs.Gates.{GateList, Machine, IsMachine, ReadsNet}
use Rattle.guard_spec.specs.Codes.{Code, correct}
use Rattle.guard_spec.specs.Words.{Words, Layout, IsPartition}
use Rattle.netlist_spec.specs.Cones.{AreMarked, marked_sum, IsGateReached, same_net, read_by, GateConeCost}
use Rattle.guard_spec.specs.Plain.{corrector_cost, CorrectorCost, BitCost, column_cost}
use Rattle.gate_net.specs.GateNet.{net_count}
use Rattle.cone_split.specs.Cones.{IsInCone, is_root, is_read, IsConeSize}
use Rattle.cone_split.specs.Ranges.{IsCopy}
use Rattle.cone_split.proofs.Cells.{contains_cases, contains_at}
use Rattle.cone_split.proofs.Ranges.{get_cases}
use Rattle.predictor.specs.Columns.{column_roots}
use Rattle.predictor.proofs.Checks.{chosen_roots}
use Rattle.predictor.proofs.Costs.{zip_chosen, chosen_cost, zip_same_length}
use Rattle.correction_laws.specs.Joined.{Corrector, AreCorrectors, IsJoined, NeedsWord}
use Rattle.correction_laws.specs.FromJoined.{IsOver}
use Rattle.correction_laws.proofs.Lists.{range_below}
use Rattle.correction_laws.proofs.Values.{holder, of_row}
use Rattle.correction_laws.proofs.Covered.{trues, CoveredBy, size_covered, trues_append, trues_replicate, exact_few, exact_at}
use Rattle.std.proofs.lemmas.List.FromFn.{length-range_with_len}

-- ---- marks of correctors

abbrev segments : List Corrector → List Bool → List Bool
segments [] bs = []
segments (c ∷ cs) [] = []
segments (c ∷ cs) (b ∷ bs) = replicate (c.end - c.first) b ++ segments cs bs

replicate_long : (n : ℕ) (b : Bool) → length (replicate n b) ≡ n
replicate_long zero b = refl
replicate_long (suc n) b = ap suc (replicate_long n b)

replicate_at : (n i : ℕ) (b : Bool) → i < n → get_or (replicate n b) i false ≡ b
replicate_at zero i b h = absurd (omega arith)
replicate_at (suc n) zero b h = refl
replicate_at (suc n) (suc i) b h = replicate_at n i b (omega arith)

module _ (net : GateList) (code : Code) (t : ℕ) (P : List ℕ → Type 0) where
  -- a net in the range of a corrector whose word has the property
  abbrev pub InSuch : List Corrector → ℕ → Type 0
  InSuch cs n = (c : Corrector) × Contains cs c × P c.word × ((c.first ≤ n) × (n < c.end))

  segments_few : (at from : ℕ) (cs : List Corrector) (end : ℕ) (bs : List Bool) → AreCorrectors net code t at from cs end → AreMarked P (map (λ c. c.word) cs) bs → trues (segments cs bs) ≤ marked_sum (λ w. corrector_cost code t (length w)) (map (λ c. c.word) cs) bs
  segments_few at from [] end bs row marked = omega arith
  segments_few at from (c ∷ cs) end [] row marked = absurd marked
  segments_few at from (c ∷ cs) end (b ∷ bs) (first, is, rest) marked =
      let h = segments_few (at + length c.word + code.columns) c.end cs end bs rest marked.1 in
      let a = trues_append (replicate (c.end - c.first) b) (segments cs bs) in
      let r = trues_replicate (c.end - c.first) b in
      let few = by_mark b in
      omega arith
    where
      by_mark : (b : Bool) → cond b (c.end - c.first) 0 ≤ cond b (corrector_cost code t (length c.word)) 0
      by_mark true = let f = is.few in omega arith
      by_mark false = omega arith

  segments_long : (at from : ℕ) (cs : List Corrector) (end : ℕ) (bs : List Bool) → AreCorrectors net code t at from cs end → AreMarked P (map (λ c. c.word) cs) bs → from + length (segments cs bs) ≡ end
  segments_long at from [] end bs row marked = omega arith
  segments_long at from (c ∷ cs) end [] row marked = absurd marked
  segments_long at from (c ∷ cs) end (b ∷ bs) (first, is, rest) marked =
      let h = segments_long (at + length c.word + code.columns) c.end cs end bs rest marked.1 in
      let a = length-append (replicate (c.end - c.first) b) (segments cs bs) in
      let r = replicate_long (c.end - c.first) b in
      let o = is.order in
      omega arith

  segments_at : (at from : ℕ) (cs : List Corrector) (end : ℕ) (bs : List Bool) (i : ℕ) → AreCorrectors net code t at from cs end → AreMarked P (map (λ c. c.word) cs) bs → InSuch cs (from + i) → get_or (segments cs bs) i false ≡ true
  segments_at at from [] end bs i row marked (c, inside, p, such) = absurd (let h = inside.1 in omega arith)
  segments_at at from (c ∷ cs) end [] i row marked such = absurd marked
  segments_at at from (c ∷ cs) end (b ∷ bs) i (first, is, rest) marked (d, inside, p, (low, high)) =
      by_place (contains_cases c d cs inside) (λ j e in_rest. segments_at (at + length c.word + code.columns) c.end cs end bs j rest marked.1 (subst (λ (n : ℕ). InSuch cs n) e (d, in_rest, p, (low, high))))
    where
      long : length (replicate (c.end - c.first) b) ≡ c.end - c.first
      long = replicate_long (c.end - c.first) b

      later : (cs : List Corrector) (at from : ℕ) → AreCorrectors net code t at from cs end → Contains cs d → from ≤ d.first
      later [] at from row (k, h, e) = absurd (omega arith)
      later (x ∷ xs) at from (f, good, row) (zero, h, e) = let s : x.first ≡ d.first = ap (λ (q : Corrector). q.first) e in omega arith
      later (x ∷ xs) at from (f, good, row) (suc k, h, e) = let a = later xs (at + length x.word + code.columns) x.end row (k, omega arith, e) in let o = good.order in omega arith

      by_place : (c ≡ d) ⊎ Contains cs d → ((j : ℕ) → from + i ≡ c.end + j → Contains cs d → get_or (segments cs bs) j false ≡ true) → get_or (replicate (c.end - c.first) b ++ segments cs bs) i false ≡ true
      by_place (inl e) rec =
          let s : c.end ≡ d.end = ap (λ (q : Corrector). q.end) e in
          let whole = long in
          get_or_append_left (replicate (c.end - c.first) b) (segments cs bs) false i (omega arith)
          ∙ (replicate_at (c.end - c.first) i b (omega arith) ∙ marked.0.1 (subst (λ (q : Corrector). P q.word) (sym e) p))
      by_place (inr in_rest) rec =
          let whole = long in
          let above = later cs (at + length c.word + code.columns) c.end rest in_rest in
          let o = is.order in
          let j = (from + i) - c.end in
          ap (λ (k : ℕ). get_or (replicate (c.end - c.first) b ++ segments cs bs) k false) (let e : i ≡ length (replicate (c.end - c.first) b) + j = omega arith in e)
          ∙ (get_or-append-add (replicate (c.end - c.first) b) (segments cs bs) j false ∙ rec j (omega arith) in_rest)

module _ (source : Machine) (code : Code) (l : Layout) (t k : ℕ) (joined : GateList) (correctors : List Corrector) (nets : List ℕ) (first : ℕ) (is_source : IsMachine source) (partition : IsPartition (length source.latches) k l.state)
    (is : IsJoined source code l t joined correctors nets first) where
  module _ (x : ℕ) where
    -- nets that a cone may have
    Allowed : ℕ → Type 0
    Allowed n = (n < joined.leaves) ⊎ (InSuch joined code t (NeedsWord source x) correctors n ⊎ ((first ≤ n) × IsGateReached source x (source.net.leaves + (n - first))))

    over_allowed : (j m : ℕ) → IsGateReached source x j → IsOver source nets first j m → Allowed m
    unfolding Allowed
    over_allowed j m reached (inr (low, e)) = inr (inr (omega arith, subst (λ (q : ℕ). IsGateReached source x q) (let f : j ≡ source.net.leaves + (m - first) = omega arith in f) reached))
    over_allowed j m reached (inl at) = by_part (get_cases (range_with_len 0 source.inputs) nets j m at)
      where
        by_part : (slice_get (range_with_len 0 source.inputs) j ≡ Some m) ⊎ ((i : ℕ) × (j ≡ length (range_with_len 0 source.inputs) + i) × (slice_get nets i ≡ Some m)) → Allowed m
        by_part (inl e) = inl (let h = range_below 0 source.inputs m (contains_at (range_with_len 0 source.inputs) j m e) in let f = is.leaves in omega arith)
        by_part (inr (i, e, at_i)) =
            let count = is.corrected.count in
            let (c, inside, (p, at_p)) = holder source code l t k joined correctors nets first is_source partition is i (let h = slice_get_within nets i m at_i in omega arith) in
            let (low, high, (q, good)) = of_row source code l t k joined correctors nets first is_source partition is c inside in
            let many = good.count in
            let h = slice_get_within c.word p i at_p in
            let n = get_or c.nets p 0 in
            let at_n = slice_get-get_or c.nets p 0 (omega arith) in
            let same : n ≡ m = same_Some n m (sym (is.corrected.each c p i n inside at_p at_n) ∙ at_i) in
            let long = length-range_with_len 0 source.inputs in
            let needs : NeedsWord source x c.word = (i, contains_at c.word p i at_p, subst (λ (r : ℕ). IsGateReached source x r) (let f : j ≡ source.inputs + i = omega arith in f) reached) in
            elim (good.known n (contains_at c.nets p n at_n)) [ inl a ↦ inl (omega arith) | inr b ↦ inr (inl (c, inside, needs, (let b0 = b.0 in omega arith, let b1 = b.1 in omega arith))) ]

    read_allowed : (n m : ℕ) → Allowed n → ReadsNet joined n m → Allowed m
    unfolding Allowed
    read_allowed n m (inl low) r = absurd (let e = r.number in omega arith)
    read_allowed n m (inr (inl (c, inside, needs, (low, high)))) r =
        let (a, b, (q, good)) = of_row source code l t k joined correctors nets first is_source partition is c inside in
        elim (good.reads n m low high r) [ inl d ↦ inl d | inr d ↦ inr (inl (c, inside, needs, d)) ]
    read_allowed n m (inr (inr (low, reached))) r =
        let count = is.cells.count in
        let e = r.number in
        let h = slice_get_within joined.gates r.place r.gate r.is_gate in
        let (j, reads, over) = is.cells.reads (n - first) m (omega arith) (subst (λ (q : ℕ). ReadsNet joined q m) (let f : n ≡ first + (n - first) = omega arith in f) r) in
        over_allowed j m (read_by reached reads) over

    in_cone_allowed : (m : ℕ) → IsOver source nets first x m → (n : ℕ) → IsInCone joined (m ∷ []) n → Allowed n
    in_cone_allowed m over n (is_root c) = elim (contains_cases m n [] c) [ inl e ↦ subst (λ (q : ℕ). Allowed q) e (over_allowed x m same_net over) | inr d ↦ absurd (let h = d.1 in omega arith) ]
    in_cone_allowed m over n (is_read {n = q} inside r) = read_allowed q n (in_cone_allowed m over q inside) r

    pub covered : (m cone more : ℕ) → IsOver source nets first x m → GateConeCost source x cone → CorrectorCost (GateConeCost source) (λ y i. IsGateReached source y (source.inputs + i)) code correct t correct l.state x more → CoveredBy joined m (cone + more)
    unfolding Allowed
    covered m cone more over (bs, marked, e) (ws, needed, f) =
        let P : List ℕ → Type 0 = NeedsWord source x in
        let marks : AreMarked P (map (λ c. c.word) correctors) ws = subst (λ (all : Words). AreMarked P all ws) (sym is.words) needed in
        let front = segments correctors ws in
        let long = segments_long joined code t P source.inputs joined.leaves correctors first ws is.row marks in
        let few = segments_few joined code t P source.inputs joined.leaves correctors first ws is.row marks in
        let total : marked_sum (λ w. corrector_cost code t (length w)) (map (λ c. c.word) correctors) ws ≡ more = ap (λ (all : Words). marked_sum (λ w. corrector_cost code t (length w)) all ws) is.words ∙ sym f in
        let exact = exact_few (λ i. IsGateReached source x (source.net.leaves + i)) 0 (length source.net.gates) bs marked in
        let both = trues_append front bs in
        let count = is.cells.count in
        (front ++ bs, (λ i h inside. at i h (in_cone_allowed m over (joined.leaves + i) inside) long), omega arith)
      where
        at : (i : ℕ) → i < length joined.gates → Allowed (joined.leaves + i) → joined.leaves + length (segments correctors ws) ≡ first → get_or (segments correctors ws ++ bs) i false ≡ true
        at i h (inl low) long = absurd (omega arith)
        at i h (inr (inl such)) long =
            let (c, inside, needs, (low, high)) = such in
            let (a, b, good) = of_row source code l t k joined correctors nets first is_source partition is c inside in
            get_or_append_left (segments correctors ws) bs false i (omega arith)
            ∙ segments_at joined code t (NeedsWord source x) source.inputs joined.leaves correctors first ws i is.row (subst (λ (all : Words). AreMarked (NeedsWord source x) all ws) (sym is.words) needed) such
        at i h (inr (inr (low, reached))) long =
            let count = is.cells.count in
            let j = (joined.leaves + i) - first in
            ap (λ (q : ℕ). get_or (segments correctors ws ++ bs) q false) (let g : i ≡ length (segments correctors ws) + j = omega arith in g)
            ∙ (get_or-append-add (segments correctors ws) bs j false
            ∙ exact_at (λ q. IsGateReached source x (source.net.leaves + q)) 0 (length source.net.gates) bs j marked (omega arith) (subst (λ (q : ℕ). IsGateReached source x (source.net.leaves + q)) (let g : j ≡ 0 + j = omega arith in g) reached))

  -- ---- one region

  abbrev Bit : ℕ → ℕ → Type 0
  Bit x n = BitCost (GateConeCost source) (λ y i. IsGateReached source y (source.inputs + i)) code correct t l.state x n

  bit_covered : (x m n : ℕ) → IsOver source nets first x m → Bit x n → (c : ℕ) × CoveredBy joined m c × (n ≡ 2 + c)
  bit_covered x m n over cost = (cost.cone + cost.correctors, covered x m cost.cone cost.correctors over cost.is_cone cost.are_correctors, let e = cost.total in omega arith)

  pub cone_cost : (x m n size : ℕ) → IsOver source nets first x m → Bit x n → IsConeSize joined (m ∷ []) size → size + 2 ≤ n
  cone_cost x m n size over cost is_size =
      let (c, cover, e) = bit_covered x m n over cost in
      let h = size_covered joined (m ∷ []) (c ∷ []) size (cover, tt) is_size in
      omega arith

  pub copy_cost : (x m n : ℕ) (leaf : List ℕ) (old new : GateList) (last : ℕ) → IsOver source nets first x m → Bit x n → IsCopy joined (m ∷ []) leaf old new last → net_count new ≤ net_count old + n
  copy_cost x m n leaf old new last over cost copy =
      let h = cone_cost x m n copy.size over cost copy.is_size in
      let few = copy.few in
      omega arith

  all_covers : (xs ms costs : List ℕ) → AllZip (IsOver source nets first) xs ms → AllZip Bit xs costs → (cs : List ℕ) × AllZip (CoveredBy joined) ms cs × (costs ≡ map (λ c. 2 + c) cs)
  all_covers [] [] [] over cost = ([], tt, refl)
  all_covers [] [] (n ∷ costs) over cost = absurd cost
  all_covers [] (m ∷ ms) costs over cost = absurd over
  all_covers (x ∷ xs) [] costs over cost = absurd over
  all_covers (x ∷ xs) (m ∷ ms) [] over cost = absurd cost
  all_covers (x ∷ xs) (m ∷ ms) (n ∷ costs) over cost =
      let (c, cover, e) = bit_covered x m n over.0 cost.0 in
      let (cs, covers, f) = all_covers xs ms costs over.1 cost.1 in
      (c ∷ cs, (cover, covers), ap₂ (λ (a : ℕ) (bs : List ℕ). a ∷ bs) e f)

  pub column_cones_cost : (xs ms costs : List ℕ) (j size : ℕ) → AllZip (IsOver source nets first) xs ms → AllZip Bit xs costs → IsConeSize joined (column_roots code j ms) size → size + length (column_roots code j ms) + 1 ≤ column_cost code costs j
  column_cones_cost xs ms costs j size over cost is_size =
      let (cs, covers, e) = all_covers xs ms costs over cost in
      let chosen = zip_chosen (CoveredBy joined) code.rows j ms cs covers in
      let h = size_covered joined (chosen_roots code.rows j ms) (chosen_roots code.rows j cs) size chosen is_size in
      let same = zip_same_length (CoveredBy joined) (chosen_roots code.rows j ms) (chosen_roots code.rows j cs) chosen in
      let total = chosen_cost code.rows j cs in
      subst (λ (all : List ℕ). size + length (chosen_roots code.rows j ms) + 1 ≤ column_cost code all j) (sym e) (omega arith)

  pub check_cost : (xs ms costs : List ℕ) (j : ℕ) (leaf : List ℕ) (old new : GateList) (last : ℕ) → AllZip (IsOver source nets first) xs ms → AllZip Bit xs costs → IsCopy joined (column_roots code j ms) leaf old new last → net_count new ≤ net_count old + column_cost code costs j
  check_cost xs ms costs j leaf old new last over cost copy =
      let h = column_cones_cost xs ms costs j copy.size over cost copy.is_size in
      let few = copy.few in
      omega arith
