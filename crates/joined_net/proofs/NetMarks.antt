-- Marks that nets gain, and the pass over all gates.
use Rattle.std.proofs.Common.{◌≡◌, ◌≢◌, refl, sym, ◌∙◌, ap, subst, ℕ, zero, suc, ◌+◌, ◌-◌, ◌<◌, ◌≤◌, ◌⊎◌, inl, inr, Bool, true, false, List, [], ◌∷◌, ◌++◌, length, map, get_or, set, slice_get, Some, replicate, take, Contains, IsTrue, arith}
use Rattle.std.specs.List.{AllByRecursion}
use Rattle.std.proofs.lemmas.List.{get_or-set_same, get_or-set_other, length-set}
use Rattle.std.proofs.lemmas.List.Elements.{Contains-push_cases}
use Rattle.netlist_spec.specs.Gates.{GateForm, GateList, IsGateList, IsMachine, LatchRow, Machine, ReadsNet, gate_reads}
use Rattle.netlist_spec.specs.Cones.{IsGateReached, same_net, read_by}
use Rattle.gate_net.specs.declared.machine.LatchRow.{LatchRow as Latch}
use Rattle.gate_net.specs.Gate.{net_number}
use Rattle.gate_net.specs.Machine.{latch_row}
use Rattle.gate_net.specs.GateNet.{net_bit, net_count}
use Rattle.cone_split.proofs.Cells.{all_from_contains, lt_eq_gt}
use Rattle.cone_split.proofs.Copied.{net_reads_below}
use Rattle.joined_net.specs.Marks.{AreNeededNets, GainsMarks, GainsReads, IsStoredOrShown}

pub gains_none : (old : List Bool) → GainsMarks old old []
gains_none old = record { count = refl; kept = λ k h. h; added = λ k c. absurd (let h = c.1 in omega arith); alone = λ k h. inl h }

stays : (ms : List Bool) (n k : ℕ) → n < length ms → IsTrue (net_bit ms k) → IsTrue (net_bit (set ms n true) k)
stays ms n k h is = elim (lt_eq_gt k n) [
  | inl a ↦ (let ne : k ≢ n = omega arith in get_or-set_other ms n k true false ne ∙ is)
  | inr (inl e) ↦ subst (λ (i : ℕ). IsTrue (net_bit (set ms n true) i)) (sym e) (get_or-set_same ms n true false h)
  | inr (inr b) ↦ (let ne : k ≢ n = omega arith in get_or-set_other ms n k true false ne ∙ is)
]

was : (ms : List Bool) (n k : ℕ) → IsTrue (net_bit (set ms n true) k) → IsTrue (net_bit ms k) ⊎ (k ≡ n)
was ms n k is = elim (lt_eq_gt k n) [
  | inl a ↦ (let ne : k ≢ n = omega arith in inl (sym (get_or-set_other ms n k true false ne) ∙ is))
  | inr (inl e) ↦ inr e
  | inr (inr b) ↦ (let ne : k ≢ n = omega arith in inl (sym (get_or-set_other ms n k true false ne) ∙ is))
]

pub gains_mark : (old ms : List Bool) (nets all : List ℕ) (n : ℕ) → all ≡ nets ++ n ∷ [] → n < length ms → GainsMarks old ms nets → GainsMarks old (set ms n true) all
gains_mark old ms nets all n is h g = subst (λ (ns : List ℕ). GainsMarks old (set ms n true) ns) (sym is) (record {
  count = length-set ms n true ∙ g.count;
  kept = λ k m. stays ms n k h (g.kept k m);
  added = λ k c. elim (Contains-push_cases nets n k c) [
    | inl d ↦ stays ms n k h (g.added k d)
    | inr e ↦ subst (λ (i : ℕ). IsTrue (net_bit (set ms n true) i)) e (get_or-set_same ms n true false h)
  ];
  alone = λ k m. elim (was ms n k m) [
    | inl d ↦ elim (g.alone k d) [ inl o ↦ inl o | inr f ↦ inr (before nets k n f) ]
    | inr e ↦ inr (subst (λ (i : ℕ). Contains (nets ++ n ∷ []) i) (sym e) (last nets n))
  ];
})
  where
    last : (ns : List ℕ) (n : ℕ) → Contains (ns ++ n ∷ []) n
    last [] n = (0, omega arith, refl)
    last (m ∷ ns) n = let c = last ns n in (suc c.0, (let h = c.1 in omega arith), c.2)

    before : (ns : List ℕ) (k n : ℕ) → Contains ns k → Contains (ns ++ n ∷ []) k
    before [] k n c = absurd (let h = c.1 in omega arith)
    before (m ∷ ns) k n (zero, h, e) = (0, omega arith, e)
    before (m ∷ ns) k n (suc i, h, e) = let c = before ns k n (i, omega arith, e) in (suc c.0, (let h = c.1 in omega arith), c.2)

-- ---- the pass

net_below : (net : GateList) (n k : ℕ) → ReadsNet net n k → (net.leaves ≤ n) × (n < net_count net)
net_below net n k r = let e = r.number in let h = within net.gates r.place r.gate r.is_gate in (omega arith, omega arith)
  where
    within : (gs : List GateForm) (i : ℕ) (g : GateForm) → slice_get gs i ≡ Some g → i < length gs
    within [] i g e = cc e
    within (f ∷ gs) zero g e = omega arith
    within (f ∷ gs) (suc i) g e = let h = within gs i g e in omega arith

pub no_reads : (m : Machine) (first : ℕ) (old : List Bool) → net_count m.net ≤ first → GainsReads m first old old
no_reads m first old h = record {
  count = refl;
  kept = λ k is. is;
  closed = λ n k low is r. absurd (let b = (net_below m.net n k r).1 in omega arith);
  alone = λ k is. (k, is, same_net);
}

module _ (m : Machine) (n : ℕ) (old ms : List Bool) (some : m.net.leaves < n) (g : GainsReads m n old ms) where
  pub read_all : (gate : GateForm) (new : List Bool) → IsGateList m.net → slice_get m.net.gates (n - 1 - m.net.leaves) ≡ Some gate → IsTrue (net_bit ms (n - 1)) → GainsMarks ms new (gate_reads gate) → GainsReads m (n - 1) old new
  read_all gate new well is_gate marked gain = record {
    count = gain.count ∙ g.count;
    kept = λ k is. gain.kept k (g.kept k is);
    closed = λ a k low is r. elim (lt_eq_gt a (n - 1)) [
      | inl h ↦ absurd (omega arith)
      | inr (inl e) ↦ gain.added k (same_reads a k e r)
      | inr (inr h) ↦ elim (gain.alone a is) [
        | inl f ↦ gain.kept k (g.closed a k (omega arith) f r)
        | inr f ↦ absurd (let b = net_reads_below m.net (n - 1) a well (reads a f) in omega arith)
      ]
    ];
    alone = λ k is. elim (gain.alone k is) [
      | inl f ↦ g.alone k f
      | inr f ↦ (let root = g.alone (n - 1) marked in (root.0, root.1, read_by root.2 (reads k f)))
    ];
  }
    where
      reads : (k : ℕ) → Contains (gate_reads gate) k → ReadsNet m.net (n - 1) k
      reads k c = record { place = n - 1 - m.net.leaves; number = omega arith; gate = gate; is_gate = is_gate; reads = c }

      same_reads : (a k : ℕ) → a ≡ n - 1 → ReadsNet m.net a k → Contains (gate_reads gate) k
      same_reads a k e r =
          let f = r.number in
          let place : r.place ≡ n - 1 - m.net.leaves = omega arith in
          let same : r.gate ≡ gate = let x : slice_get m.net.gates (n - 1 - m.net.leaves) ≡ Some r.gate = ap (λ (i : ℕ). slice_get m.net.gates i) (sym place) ∙ r.is_gate in cc (x, is_gate) in
          subst (λ (h : GateForm). Contains (gate_reads h) k) same r.reads

  pub read_none : net_bit ms (n - 1) ≡ false → GainsReads m (n - 1) old ms
  read_none dead = record {
    count = g.count;
    kept = g.kept;
    closed = λ a k low is r. elim (lt_eq_gt a (n - 1)) [
      | inl h ↦ absurd (omega arith)
      | inr (inl e) ↦ (let t : net_bit ms (n - 1) ≡ true = ap (net_bit ms) (sym e) ∙ is in let clash : true ≡ false = sym t ∙ dead in cc clash)
      | inr (inr h) ↦ g.closed a k (omega arith) is r
    ];
    alone = g.alone;
  }

-- ---- all needed nets

pub are_needed : (m : Machine) (bare one two marks : List Bool) → length bare ≡ net_count m.net → ((k : ℕ) → IsTrue (net_bit bare k) → ⊥)
    → GainsMarks bare one (map (λ r. r.d) m.latches) → GainsMarks one two m.outputs → GainsReads m m.net.leaves two marks → AreNeededNets m marks
are_needed m bare one two marks long none stores shown reads = record {
  count = reads.count ∙ (shown.count ∙ (stores.count ∙ long));
  all = all;
  alone = λ k is. let root = reads.alone k is in (root.0, source root.0 root.1, root.2);
}
  where
    source : (x : ℕ) → IsTrue (net_bit two x) → IsStoredOrShown m x
    source x is = elim (shown.alone x is) [ inl f ↦ elim (stores.alone x f) [ inl h ↦ absurd (none x h) | inr h ↦ inl h ] | inr f ↦ inr f ]

    first : (x : ℕ) → IsStoredOrShown m x → IsTrue (net_bit marks x)
    first x root = reads.kept x (elim root [ inl c ↦ shown.kept x (stores.added x c) | inr c ↦ shown.added x c ])

    all : (x k : ℕ) → IsStoredOrShown m x → IsGateReached m x k → IsTrue (net_bit marks k)
    all x k root same_net = first x root
    all x k root (read_by {n} way r) = reads.closed n k (net_below m.net n k r).0 (all x n root way) r

pub none_marked : (n k : ℕ) → IsTrue (net_bit (replicate n false) k) → ⊥
none_marked zero k is = let clash : false ≡ true = is in cc clash
none_marked (suc n) zero is = let clash : false ≡ true = is in cc clash
none_marked (suc n) (suc k) is = none_marked n k is

pub reads_within : (net : GateList) (n size : ℕ) (gate : GateForm) → IsGateList net → net.leaves < n → n ≤ size → slice_get net.gates (n - 1 - net.leaves) ≡ Some gate → AllByRecursion (λ k. k < size) (gate_reads gate)
reads_within net n size gate well some most is_gate =
    all_from_contains (λ k. k < size) (gate_reads gate) (λ k c. let b = net_reads_below net (n - 1) k well (record { place = n - 1 - net.leaves; number = omega arith; gate = gate; is_gate = is_gate; reads = c }) in omega arith)

pub same_read : (xs : List ℕ) (i d e : ℕ) → i < length xs → get_or xs i d ≡ get_or xs i e
same_read [] i d e h = absurd (omega arith)
same_read (x ∷ xs) zero d e h = refl
same_read (x ∷ xs) (suc i) d e h = same_read xs i d e (omega arith)

pub no_mark : (marks : List Bool) (inputs i n : ℕ) (word : List ℕ) → i < length word → get_or word i n ≡ n → get_or marks (inputs + get_or word i 0) false ≡ false → IsTrue (net_bit marks (inputs + n)) → ⊥
no_mark marks inputs i n word h at dead is =
    let e : get_or word i 0 ≡ n = same_read word i 0 n h ∙ at in
    let clash : true ≡ false = sym is ∙ (ap (λ (k : ℕ). get_or marks (inputs + k) false) (sym e) ∙ dead) in
    cc clash

-- all nets that are stored or shown are nets
pub stored_below : (m : Machine) (size : ℕ) → IsMachine m → size ≡ net_count m.net → AllByRecursion (λ n. n < size) (map (λ r. r.d) m.latches)
stored_below m size is e = all m.latches is.stores
  where
    all : (rs : List LatchRow) → AllByRecursion (λ r. r.d < net_count m.net) rs → AllByRecursion (λ n. n < size) (map (λ r. r.d) rs)
    all [] h = tt
    all (r ∷ rs) h = ((let a = h.0 in omega arith), all rs h.1)

pub shown_below : (m : Machine) (size : ℕ) → IsMachine m → size ≡ net_count m.net → AllByRecursion (λ n. n < size) m.outputs
shown_below m size is e = subst (λ (k : ℕ). AllByRecursion (λ n. n < k) m.outputs) (sym e) is.outputs

pub whole : (len : ℕ) (new rest : List Bool) → length new ≡ len → take len (new ++ rest) ≡ new
whole zero [] rest h = refl
whole zero (x ∷ new) rest h = absurd (omega arith)
whole (suc len) [] rest h = absurd (omega arith)
whole (suc len) (x ∷ new) rest h = ap (λ (bs : List Bool). x ∷ bs) (whole len new rest (omega arith))

pub numbers_stored : (rows : List Latch) → map net_number (map (λ (r : Latch). r.d) rows) ≡ map (λ r. r.d) (map latch_row rows)
numbers_stored [] = refl
numbers_stored (r ∷ rows) = ap (λ (ns : List ℕ). net_number r.d ∷ ns) (numbers_stored rows)
