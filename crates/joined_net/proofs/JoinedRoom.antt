-- Words that are needed, the room for their correctors, and the joined list.
use Rattle.std.proofs.Common.{◌≡◌, refl, sym, ◌∙◌, ap, ap₂, subst, ℕ, zero, suc, ◌+◌, ◌<◌, ◌≤◌, ◌↔◌, Bool, true, false, List, [], ◌∷◌, ◌++◌, length, map, replicate, arith, slice_get, Some, cond, Contains, IsTrue}
use Rattle.std.specs.Prelude.{sum_by}
use Rattle.std.specs.List.{AllByRecursion, range_with_len}
use Rattle.std.proofs.lemmas.List.Sums.{sum_by-cons}
use Rattle.netlist_spec.specs.Gates.{GateList, IsGateList, Machine}
use Rattle.netlist_spec.specs.Cones.{marked_sum}
use Rattle.gate_net.specs.declared.gate.NetId.{NetId}
use Rattle.gate_net.specs.Gate.{net_number}
use Rattle.gate_net.specs.GateNet.{net_bit, net_count}
use Rattle.guard_spec.specs.Codes.{Code, correct}
use Rattle.guard_spec.specs.Plain.{IsMachineSizeWith, corrector_cost}
use Rattle.guard_spec.specs.Words.{IsPartition, Layout, Words}
use Rattle.guard_laws.specs.Places.{latches_of_words}
use Rattle.cone_split.specs.Ranges.{KeepsGates}
use Rattle.cone_split.specs.Whole.{IsCopyOfAll}
use Rattle.cone_split.proofs.Cells.{at_contains, contains_head, contains_tail}
use Rattle.correction_laws.specs.Joined.{AreCorrectors, Corrector}
use Rattle.correction_laws.specs.Room.{AreNeeded}
use Rattle.correction_laws.proofs.Steps.{correctors_stay}
use Rattle.joined_net.specs.Marks.{AreNeededNets, HasMark}
use Rattle.joined_net.specs.Ready.{IsReadyToCopy}
use Rattle.joined_net.specs.Words.{CoversCosts, GainsWords}
use Rattle.guard_net.proofs.Lists.{keeps_leaves}

-- ---- costs of needed words

abbrev pub is_marked : List Bool → ℕ → List ℕ → Bool
is_marked marks inputs [] = false
is_marked marks inputs (i ∷ w) = cond (net_bit marks (inputs + i)) true (is_marked marks inputs w)

marked_has : (marks : List Bool) (inputs : ℕ) (w : List ℕ) → IsTrue (is_marked marks inputs w) → HasMark marks inputs w
marked_has marks inputs [] is = let clash : false ≡ true = is in cc clash
marked_has marks inputs (i ∷ w) is = by_test (net_bit marks (inputs + i)) refl is (λ h. marked_has marks inputs w h)
  where
    by_test : (b : Bool) → net_bit marks (inputs + i) ≡ b → IsTrue (cond b true (is_marked marks inputs w)) → (IsTrue (is_marked marks inputs w) → HasMark marks inputs w) → HasMark marks inputs (i ∷ w)
    by_test true e h rest = (i, contains_head i w, e)
    by_test false e h rest = let later = rest h in (later.0, contains_tail i later.0 w later.1, later.2)

has_marked : (marks : List Bool) (inputs : ℕ) (w : List ℕ) (p i : ℕ) → slice_get w p ≡ Some i → IsTrue (net_bit marks (inputs + i)) → IsTrue (is_marked marks inputs w)
has_marked marks inputs [] p i at is = absurd (cc at)
has_marked marks inputs (k ∷ w) zero i at is =
    let same : k ≡ i = cc at in
    ap (λ (b : Bool). cond b true (is_marked marks inputs w)) (ap (λ (j : ℕ). net_bit marks (inputs + j)) same ∙ is)
has_marked marks inputs (k ∷ w) (suc p) i at is = by_test (net_bit marks (inputs + k)) (has_marked marks inputs w p i at is)
  where
    by_test : (b : Bool) → IsTrue (is_marked marks inputs w) → IsTrue (cond b true (is_marked marks inputs w))
    by_test true h = refl
    by_test false h = h

abbrev pub needed_cost : Code → ℕ → ℕ → List Bool → List ℕ → ℕ
needed_cost code t inputs marks w = cond (is_marked marks inputs w) (corrector_cost code t (length w)) 0

pub costs_covered : (code : Code) (t inputs : ℕ) (marks : List Bool) → CoversCosts code t inputs marks (needed_cost code t inputs marks)
costs_covered code t inputs marks w (i, c, is) =
    let place = at_contains w i c in
    let e : is_marked marks inputs w ≡ true = has_marked marks inputs w place.0 i place.1 is in
    let f : cond {A = ℕ} (is_marked marks inputs w) (corrector_cost code t (length w)) 0 ≡ corrector_cost code t (length w) = ap (λ (b : Bool). cond {A = ℕ} b (corrector_cost code t (length w)) 0) e in
    omega (arith, f)

cost_sum : (code : Code) (t inputs : ℕ) (marks : List Bool) (words : Words) → sum_by (needed_cost code t inputs marks) words ≡ marked_sum (λ w. corrector_cost code t (length w)) words (map (is_marked marks inputs) words)
cost_sum code t inputs marks [] = refl
cost_sum code t inputs marks (w ∷ words) = sum_by-cons (needed_cost code t inputs marks) w words ∙ ap (λ (n : ℕ). needed_cost code t inputs marks w + n) (cost_sum code t inputs marks words)

pub needed_words : (m : Machine) (marks : List Bool) (words : Words) → AreNeededNets m marks → AreNeeded m words (map (is_marked marks m.inputs) words)
needed_words m marks [] are = tt
needed_words m marks (w ∷ words) are = (
  λ is. let mark = marked_has marks m.inputs w is in let root = are.alone (m.inputs + mark.0) mark.2 in (root.0, root.1, (mark.0, mark.1, root.2)),
  needed_words m marks words are,
)

pub needed_sum : (m : Machine) (code : Code) (t n : ℕ) (marks : List Bool) (words : Words) → marked_sum (λ w. corrector_cost code t (length w)) words (map (is_marked marks m.inputs) words) ≤ n → sum_by (needed_cost code t m.inputs marks) words ≤ n
needed_sum m code t n marks words h = let e = cost_sum code t m.inputs marks words in omega arith

pub needed_correctors : (m : Machine) (marks : List Bool) (cs : List Corrector) → AreNeededNets m marks → ((c : Corrector) → Contains cs c → IsTrue c.serves ↔ HasMark marks m.inputs c.word) → AreNeeded m (map (λ c. c.word) cs) (map (λ c. c.serves) cs)
needed_correctors m marks [] are all = tt
needed_correctors m marks (c ∷ cs) are all = (
  λ is. let mark = (all c (contains_head c cs)).0 is in let root = are.alone (m.inputs + mark.0) mark.2 in (root.0, root.1, (mark.0, mark.1, root.2)),
  needed_correctors m marks cs are (λ d inside. all d (contains_tail c d cs inside)),
)

pub leaves_are : (m : Machine) (code : Code) (l : Layout) (inputs columns count : ℕ) (words : Words) → inputs ≡ m.inputs → columns ≡ code.columns → words ≡ l.state → count ≡ inputs + sum_by (λ (w : List ℕ). length w + columns) words → count ≡ m.inputs + latches_of_words code l.state
leaves_are m code l inputs columns count words a b c is =
    is ∙ ap₂ (λ (x y : ℕ). x + y) a (ap (λ (k : ℕ). sum_by (λ (w : List ℕ). length w + k) words) b ∙ ap (latches_of_words code) c)

pub leaves_few : (m : Machine) (code : Code) (t n : ℕ) (l : Layout) → IsMachineSizeWith m code correct t 0 l n → latches_of_words code l.state ≤ n
leaves_few m code t n l size = let e = size.total in omega (arith, e)

none_below : (m n : ℕ) → (0 < n → 0 < m) → (nets : List NetId) → map net_number nets ≡ replicate n 0 → AllByRecursion (λ k. k < m) (map net_number nets)
none_below m n h nets e = subst (λ (ns : List ℕ). AllByRecursion (λ k. k < m) ns) (sym e) (all n h)
  where
    all : (n : ℕ) → (0 < n → 0 < m) → AllByRecursion (λ k. k < m) (replicate n 0)
    all zero h = tt
    all (suc n) h = let some = h (omega arith) in (some, all n (λ g. some))

zeros : (n : ℕ) → map net_number (replicate n (record { 0 = 0 })) ≡ replicate n 0
zeros zero = refl
zeros (suc n) = ap (λ (ns : List ℕ). 0 ∷ ns) (zeros n)

some_latch : (code : Code) (n k : ℕ) (words : Words) → 0 < n → IsPartition n k words → 1 ≤ latches_of_words code words
some_latch code n k [] h is = let e = is.each_once 0 h in absurd (omega (arith, e))
some_latch code n k (w ∷ words) h is = let s = sum_by-cons (λ (v : List ℕ). length v + code.columns) w words in let some = is.lengths.0.0 in omega (arith, s, some)

pub bare_below : (code : Code) (n k inputs size : ℕ) (words : Words) (nets : List NetId) → IsPartition n k words → size ≡ inputs + latches_of_words code words → nets ≡ replicate n (record { 0 = 0 }) → AllByRecursion (λ i. i < size) (map net_number nets)
bare_below code n k inputs size words nets is many e = none_below size n (λ h. let some = some_latch code n k words h is in omega arith) nets (ap (map net_number) e ∙ zeros n)

-- ---- the joined list

pub ready : (m : Machine) (code : Code) (l : Layout) (t : ℕ) (marks : List Bool) (net new : GateList) (nets leaf : List ℕ) (first : ℕ) → GainsWords code t m.inputs (length m.latches) marks l.state net nets → KeepsGates net new
    → net.leaves ≡ m.inputs + latches_of_words code l.state → IsGateList new → AreNeededNets m marks → leaf ≡ range_with_len 0 m.inputs ++ nets → IsCopyOfAll m.net leaf (net_count net) new → first ≡ net_count net → IsReadyToCopy m code l t new nets first
ready m code l t marks net new nets leaf first g kept leaves well are is_leaf copy at =
    subst (λ (k : ℕ). IsReadyToCopy m code l t new nets k) (sym at) (record {
      correctors = g.correctors;
      joined_list = record {
        is_list = well;
        leaves = keeps_leaves net new kept ∙ leaves;
        words = g.are_words;
        row = subst (λ (a : GateList). AreCorrectors a code t m.inputs a.leaves g.correctors (net_count net)) (sym kept.1) (correctors_stay net kept.0 code t m.inputs net.leaves g.correctors (net_count net) (omega arith) g.row);
        corrected = g.corrected;
        cells = subst (λ (ns : List ℕ). IsCopyOfAll m.net ns (net_count net) new) is_leaf copy;
      };
      served = λ x root c inside needs. (g.serves c inside).1 (needs.0, needs.1, are.all x (m.inputs + needs.0) root needs.2);
    })
