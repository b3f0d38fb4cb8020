-- A machine's guard is no larger than its source's plain size.
use Rattle.std.proofs.Common.{◌≡◌, refl, subst, ℕ, zero, suc, ◌+◌, ◌<◌, ◌≤◌, List, [], ◌∷◌, length, map, get_or, slice_get, Bool, true, false, cond, Some, arith, Contains, sum_by}
use Rattle.std.specs.Prelude.{IsTrue}
use Rattle.std.specs.List.{AllByRecursion, AllZip, range_with_len, zip}
use Rattle.std.proofs.lemmas.List.Sums.{sum_by-cons}
use Rattle.netlist_spec.specs.Netlist.{Name, Model, File}
use Rattle.netlist_spec.specs.Covers.{Library}
use Rattle.netlist_spec.specs.Models.{latch_inputs, output_nets}
use Rattle.netlist_spec.specs.SourceRun.{Bits}
use Rattle.netlist_spec.specs.Gates.{LatchRow, Machine}
use Rattle.guard_spec.specs.Codes.{Code, Mode, detect, correct}
use Rattle.guard_spec.specs.Words.{Words, Layout, IsPartition}
use Rattle.netlist_spec.specs.Cones.{marked_sum, AreMarked, IsGateReached, GateConeCost, ConeCostOf, RestsOnLatch}
use Rattle.guard_spec.specs.Plain.{AreNets, column_cost, word_cost, corrector_cost, CorrectorCost, Needs, BitCost, WordCost, WordsCost, IsMachineSizeWith, IsSizeWith}
use Rattle.netlist_spec.specs.Elaborated.{CostsNoMore, IsMachineOf}
use Rattle.containment.proofs.Counting.{parts_are_below}

-- ---- sums

abbrev pub AtMost : List ℕ → List ℕ → Type 0
AtMost xs ys = AllZip (λ a b. a ≤ b) xs ys

sums : (xs ys : List ℕ) → AtMost xs ys → sum_by (λ n. n) xs ≤ sum_by (λ n. n) ys
sums [] [] h = omega arith
sums [] (y ∷ ys) h = absurd h
sums (x ∷ xs) [] h = absurd h
sums (x ∷ xs) (y ∷ ys) h =
    let a = sum_by-cons (λ (n : ℕ). n) x xs in
    let b = sum_by-cons (λ (n : ℕ). n) y ys in
    let here = h.0 in
    let rest = sums xs ys h.1 in
    omega arith

abbrev in_column : ℕ → ℕ × Bits → ℕ
in_column j p = cond (get_or p.1 j false) p.0 0

columns : (j : ℕ) (rows : List Bits) (xs ys : List ℕ) → AtMost xs ys → sum_by (in_column j) (zip xs rows) ≤ sum_by (in_column j) (zip ys rows)
columns j rows [] [] h = omega arith
columns j rows [] (y ∷ ys) h = absurd h
columns j rows (x ∷ xs) [] h = absurd h
columns j [] (x ∷ xs) (y ∷ ys) h = omega arith
columns j (row ∷ rows) (x ∷ xs) (y ∷ ys) h =
    let a = sum_by-cons (in_column j) (x, row) (zip xs rows) in
    let b = sum_by-cons (in_column j) (y, row) (zip ys rows) in
    let here = by_bit (get_or row j false) in
    let rest = columns j rows xs ys h.1 in
    omega arith
  where
    by_bit : (b : Bool) → cond b x 0 ≤ cond b y 0
    by_bit true = h.0
    by_bit false = omega arith

all_columns : (f g : ℕ → ℕ) → ((j : ℕ) → f j ≤ g j) → (js : List ℕ) → sum_by f js ≤ sum_by g js
all_columns f g h [] = omega arith
all_columns f g h (j ∷ js) =
    let a = sum_by-cons f j js in
    let b = sum_by-cons g j js in
    let here = h j in
    let rest = all_columns f g h js in
    omega arith

pub word_costs : (code : Code) (xs ys : List ℕ) → AtMost xs ys → word_cost code xs ≤ word_cost code ys
word_costs code xs ys h =
    let a = sums xs ys h in
    let b = all_columns (column_cost code xs) (column_cost code ys) (λ j. let c = columns j code.rows xs ys h in omega arith) (range_with_len 0 code.columns) in
    omega arith

marked : {A : Type 0} (f : A → ℕ) (P Q : A → Type 0) (ws : List A) (cs bs : List Bool) → AreMarked P ws cs → AreMarked Q ws bs → AllByRecursion (λ w. P w → Q w) ws → marked_sum f ws cs ≤ marked_sum f ws bs
marked f P Q [] cs bs p q h = omega arith
marked f P Q (w ∷ ws) [] bs p q h = absurd p
marked f P Q (w ∷ ws) (a ∷ cs) [] p q h = absurd q
marked f P Q (w ∷ ws) (a ∷ cs) (b ∷ bs) p q h =
    let here = by_mark a b (λ t. q.0.1 (h.0 (p.0.0 t))) in
    let rest = marked f P Q ws cs bs p.1 q.1 h.1 in
    omega arith
  where
    by_mark : (a b : Bool) → (IsTrue a → IsTrue b) → cond a (f w) 0 ≤ cond b (f w) 0
    by_mark false b i = omega arith
    by_mark true true i = omega arith
    by_mark true false i = let e = i refl in cc e

-- ---- nets of two kinds

related : {X Y : Type 0} (R : X → Y → Type 0) (xs : List X) (ys : List Y) → AllZip R xs ys → (i : ℕ) (x : X) (y : Y) → slice_get xs i ≡ Some x → slice_get ys i ≡ Some y → R x y
related R [] ys h i x y e f = cc e
related R (a ∷ xs) [] h i x y e f = cc f
related R (a ∷ xs) (b ∷ ys) h zero x y e f = let p : a ≡ x = cc e in let q : b ≡ y = cc f in subst (λ z. R x z) q (subst (λ z. R z b) p h.0)
related R (a ∷ xs) (b ∷ ys) h (suc i) x y e f = related R xs ys h.1 i x y e f

nets_related : {X Y : Type 0} (R : X → Y → Type 0) (xs : List X) (ys : List Y) → AllZip R xs ys → (word : List ℕ) (ns : List X) (ms : List Y) → AreNets xs word ns → AreNets ys word ms → AllZip R ns ms
nets_related R xs ys h [] [] [] p q = tt
nets_related R xs ys h [] [] (m ∷ ms) p q = absurd q
nets_related R xs ys h [] (n ∷ ns) ms p q = absurd p
nets_related R xs ys h (i ∷ word) [] ms p q = absurd p
nets_related R xs ys h (i ∷ word) (n ∷ ns) [] p q = absurd q
nets_related R xs ys h (i ∷ word) (n ∷ ns) (m ∷ ms) p q = (related R xs ys h i n m p.0 q.0, nets_related R xs ys h word ns ms p.1 q.1)

costs_related : {X Y : Type 0} (R : X → Y → Type 0) (B : X → ℕ → Type 0) (C : Y → ℕ → Type 0) → ((x : X) (y : Y) (a b : ℕ) → R x y → B x a → C y b → a ≤ b) → (ns : List X) (ms : List Y) (cs bs : List ℕ) → AllZip R ns ms → AllZip B ns cs → AllZip C ms bs → AtMost cs bs
costs_related R B C h [] [] [] [] r p q = tt
costs_related R B C h [] [] [] (b ∷ bs) r p q = absurd q
costs_related R B C h [] [] (a ∷ cs) bs r p q = absurd p
costs_related R B C h [] (m ∷ ms) cs bs r p q = absurd r
costs_related R B C h (n ∷ ns) [] cs bs r p q = absurd r
costs_related R B C h (n ∷ ns) (m ∷ ms) [] bs r p q = absurd p
costs_related R B C h (n ∷ ns) (m ∷ ms) (a ∷ cs) [] r p q = absurd q
costs_related R B C h (n ∷ ns) (m ∷ ms) (a ∷ cs) (b ∷ bs) r p q = (h n m a b r.0 p.0 q.0, costs_related R B C h ns ms cs bs r.1 p.1 q.1)

same_words : (B C : List ℕ → ℕ → Type 0) → ((w : List ℕ) (a b : ℕ) → B w a → C w b → a ≤ b) → (ws : Words) (cs bs : List ℕ) → AllZip B ws cs → AllZip C ws bs → AtMost cs bs
same_words B C h [] [] [] p q = tt
same_words B C h [] [] (b ∷ bs) p q = absurd q
same_words B C h [] (a ∷ cs) bs p q = absurd p
same_words B C h (w ∷ ws) [] bs p q = absurd p
same_words B C h (w ∷ ws) (a ∷ cs) [] p q = absurd q
same_words B C h (w ∷ ws) (a ∷ cs) (b ∷ bs) p q = (h w a b p.0 q.0, same_words B C h ws cs bs p.1 q.1)

module _ (file : File) (library : Library) (m : Model) (machine : Machine) (means : IsMachineOf file library m machine) (code : Code) (mode : Mode) (radius rails k : ℕ) (l : Layout) (state_words : IsPartition (length machine.latches) k l.state) where
  abbrev CostsLess : ℕ → Name → Type 0
  CostsLess n x = CostsNoMore file library m machine x n

  stored_related : (xs : List Name) (rows : List LatchRow) → AllZip (λ x r. CostsNoMore file library m machine x r.d) xs rows → AllZip CostsLess (map (λ r. r.d) rows) xs
  stored_related [] [] h = tt
  stored_related [] (r ∷ rows) h = absurd h
  stored_related (x ∷ xs) [] h = absurd h
  stored_related (x ∷ xs) (r ∷ rows) h = (h.0, stored_related xs rows h.1)

  shown_related : (xs : List Name) (ns : List ℕ) → AllZip (λ x n. CostsNoMore file library m machine x n) xs ns → AllZip CostsLess ns xs
  shown_related [] [] h = tt
  shown_related [] (n ∷ ns) h = absurd h
  shown_related (x ∷ xs) [] h = absurd h
  shown_related (x ∷ xs) (n ∷ ns) h = (h.0, shown_related xs ns h.1)

  abbrev Rests : ℕ → ℕ → Type 0
  Rests x i = IsGateReached machine x (machine.inputs + i)

  abbrev Small : ℕ → ℕ → Type 0
  Small x n = BitCost (GateConeCost machine) Rests code mode radius l.state x n

  abbrev Large : Name → ℕ → Type 0
  Large x n = BitCost (ConeCostOf file library m) (RestsOnLatch file library m) code mode radius l.state x n

  in_range : (w : List ℕ) (i : ℕ) → AllByRecursion (λ k. k < length machine.latches) w → Contains w i → i < length machine.latches
  in_range w i a c = subst (λ (k : ℕ). k < length machine.latches) c.2 (at w c.0 _ a c.1)
    where
      at : (ks : List ℕ) (j d : ℕ) → AllByRecursion (λ k. k < length machine.latches) ks → j < length ks → get_or ks j d < length machine.latches
      at [] j d a h = absurd (omega arith)
      at (x ∷ ks) zero d a h = a.0
      at (x ∷ ks) (suc j) d a h = at ks j d a.1 (omega arith)

  needs : (x : ℕ) (y : Name) → CostsLess x y → (ws : Words) → AllByRecursion (λ w. AllByRecursion (λ k. k < length machine.latches) w) ws → AllByRecursion (λ w. Needs (GateConeCost machine) Rests code mode radius x w → Needs (ConeCostOf file library m) (RestsOnLatch file library m) code mode radius y w) ws
  needs x y r [] a = tt
  needs x y r (w ∷ ws) a = ((λ n. (n.0, n.1, r.latches n.0 (in_range w n.0 a.0 n.1) n.2)), needs x y r ws a.1)

  correctors : (md : Mode) (x : ℕ) (y : Name) (a b : ℕ) → CostsLess x y → CorrectorCost (GateConeCost machine) Rests code mode radius md l.state x a → CorrectorCost (ConeCostOf file library m) (RestsOnLatch file library m) code mode radius md l.state y b → a ≤ b
  correctors detect x y a b r p q = omega arith
  correctors correct x y a b r (cs, p, e) (bs, q, f) =
      let h = marked (λ w. corrector_cost code radius (length w)) _ _ l.state cs bs p q (needs x y r l.state (parts_are_below l.state (length machine.latches) state_words.no_other)) in
      omega arith

  bits : (x : ℕ) (y : Name) (a b : ℕ) → CostsLess x y → Small x a → Large y b → a ≤ b
  bits x y a b r p q =
      let cone = r.cost p.cone q.cone p.is_cone q.is_cone in
      let more = correctors mode x y p.correctors q.correctors r p.are_correctors q.are_correctors in
      let e = p.total in
      let f = q.total in
      omega arith

  words : (ns : List ℕ) (xs : List Name) → AllZip CostsLess ns xs → (ws : Words) (a b : ℕ) → WordsCost (GateConeCost machine) Rests code mode radius l ns ws a → WordsCost (ConeCostOf file library m) (RestsOnLatch file library m) code mode radius l xs ws b → a ≤ b
  words ns xs r ws a b (cs, p, e) (bs, q, f) =
      let h = sums cs bs (same_words _ _ word ws cs bs p q) in
      omega arith
    where
      word : (w : List ℕ) (a b : ℕ) → (nets : List ℕ) × AreNets ns w nets × WordCost (GateConeCost machine) Rests code mode radius l.state nets a → (nets : List Name) × AreNets xs w nets × WordCost (ConeCostOf file library m) (RestsOnLatch file library m) code mode radius l.state nets b → a ≤ b
      word w a b (n1, are1, (costs1, each1, e1)) (n2, are2, (costs2, each2, e2)) =
          let h = word_costs code costs1 costs2 (costs_related CostsLess Small Large bits n1 n2 costs1 costs2 (nets_related CostsLess ns xs r w n1 n2 are1 are2) each1 each2) in
          omega arith

  pub size_no_more : (small large : ℕ) → IsMachineSizeWith machine code mode radius rails l small → IsSizeWith file library m code mode radius rails l large → small ≤ large
  size_no_more small large p q =
      let a = words (map (λ r. r.d) machine.latches) (latch_inputs m) (stored_related (latch_inputs m) machine.latches means.stores) l.state p.state_cost q.state_cost p.is_state_cost q.is_state_cost in
      let b = words machine.outputs (output_nets m) (shown_related (output_nets m) machine.outputs means.cones) l.output p.output_cost q.output_cost p.is_output_cost q.is_output_cost in
      let e = p.total in
      let f = q.total in
      omega arith
