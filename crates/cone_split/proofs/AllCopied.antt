-- The copied gates of a whole list are a copy of all.
use Rattle.std.proofs.Common.{◌≡◌, sym, ◌∙◌, ap, subst, ℕ, zero, suc, ◌+◌, ◌-◌, ◌<◌, ◌≤◌, inl, inr, Bool, List, [], ◌∷◌, ◌++◌, length, map, slice_get, Some, arith, Result, Ok, Err, OnOk}
use Rattle.std.specs.List.{AllByRecursion, range_with_len}
use Rattle.std.proofs.lemmas.Option.{slice_get_within, same_Some}
use Rattle.std.proofs.lemmas.List.{append-nil}
use Rattle.std.proofs.lemmas.List.FromFn.{length-range_with_len}
use Rattle.netlist_spec.specs.Gates.{GateForm, GateList, IsGateList, AnswersWithin, IsEvaluation, ReadsNet}
use Rattle.gate_net.specs.GateNet.{net_count}
use Rattle.cone_split.specs.Copies.{Rises, IsImage, AreClosed, AreCopied}
use Rattle.cone_split.proofs.Cells.{contains_at}
use Rattle.cone_split.proofs.Copied.{zip_left, zip_length, read_images, net_reads_below}
use Rattle.cone_split.proofs.Ranges.{longer, longer_count, reads_behind}
use Rattle.cone_split.proofs.Values.{image_bits}
use Rattle.cone_split.specs.Whole.{StandsFor, IsCopyOfAll}

get_in_range : (a n i : ℕ) → i < n → slice_get (range_with_len a n) i ≡ Some (a + i)
get_in_range a zero i h = absurd (omega arith)
get_in_range a (suc n) zero h = ap (λ (k : ℕ). Some k) (let e : a ≡ a + 0 = omega arith in e)
get_in_range a (suc n) (suc i) h = get_in_range (a + 1) n i (omega arith) ∙ ap (λ (k : ℕ). Some k) (let e : (a + 1) + i ≡ a + suc i = omega arith in e)

range_long : (a n : ℕ) → length (range_with_len a n) ≡ n
range_long a n = length-range_with_len a n

range_rises : (low a n : ℕ) → low ≤ a → Rises low (range_with_len a n)
range_rises low a zero h = tt
range_rises low a (suc n) h = (h, range_rises (a + 1) (a + 1) n (omega arith))

module _ (src : GateList) (leaf : List ℕ) (old : GateList) (hs : List GateForm) (well : IsGateList src) (long : length leaf ≡ src.leaves) where
  abbrev cells : List ℕ
  cells = range_with_len src.leaves (length src.gates)

  number_at : (i n : ℕ) → slice_get cells i ≡ Some n → n ≡ src.leaves + i
  number_at i n e =
      let h = slice_get_within cells i n e in
      let l = range_long src.leaves (length src.gates) in
      sym (same_Some (src.leaves + i) n (sym (get_in_range src.leaves (length src.gates) i (omega arith)) ∙ e))

  to_image : (n m : ℕ) → n < net_count src → StandsFor src.leaves leaf (net_count old) n m → IsImage leaf cells (net_count old) n m
  to_image n m h (inl e) = inl e
  to_image n m h (inr (low, e)) = inr (omega arith, (n - src.leaves, get_in_range src.leaves (length src.gates) (n - src.leaves) (omega arith) ∙ ap (λ (k : ℕ). Some k) (let f : src.leaves + (n - src.leaves) ≡ n = omega arith in f), e))

  from_image : (n m : ℕ) → IsImage leaf cells (net_count old) n m → StandsFor src.leaves leaf (net_count old) n m
  from_image n m (inl e) = inl e
  from_image n m (inr (low, (i, at, e))) = inr (omega arith, let f = number_at i n at in omega arith)

  module _ (copied : AreCopied src leaf cells (net_count old) cells hs) where
    as_many : length hs ≡ length src.gates
    as_many = sym (zip_length _ cells hs copied) ∙ range_long src.leaves (length src.gates)

    reads : (i k : ℕ) → i < length src.gates → ReadsNet (longer old hs) (net_count old + i) k → (j : ℕ) × ReadsNet src (src.leaves + i) j × StandsFor src.leaves leaf (net_count old) j k
    reads i k h r =
        let (p, g, at, number, c) = reads_behind old hs (net_count old + i) k (omega arith) r in
        let (n, at_n, (f, is_gate, same)) = zip_left _ cells hs p g copied at in
        let e = number_at p n at_n in
        let (j, inside, image) = read_images leaf cells (net_count old) f g k same c in
        (j, record { place = p; number = omega arith; gate = f; is_gate = ap (slice_get src.gates) (let d : p ≡ n - src.leaves = omega arith in d) ∙ is_gate; reads = inside }, from_image j k image)

    value : (all : List GateForm) → all ≡ hs ++ [] → (v u : ℕ → Bool) → AnswersWithin (longer old all) (net_count old) (net_count (longer old all)) v → IsEvaluation src (map v leaf) u → (n m : ℕ) → IsImage leaf cells (net_count old) n m → v m ≡ u n
    value all e v u answers evaluation n m image =
        image_bits src leaf cells old hs [] well (range_rises src.leaves src.leaves (length src.gates) (omega arith)) long copied v u
        (subst (λ (gs : List GateForm). AnswersWithin (longer old gs) (net_count old) (net_count (longer old gs)) v) e answers) evaluation n m image

    pub whole_copy : IsCopyOfAll src leaf (net_count old) (longer old hs)
    whole_copy = record {
      gates = omega arith;
      count = let c = longer_count old hs in let m = as_many in omega arith;
      reads = reads;
      value = λ v u answers evaluation n m h stands. value hs (sym (append-nil hs)) v u answers evaluation n m (to_image n m h stands);
    }

-- ---- all gates

pub range_push : (a n : ℕ) → range_with_len a n ++ (a + n) ∷ [] ≡ range_with_len a (n + 1)
range_push a zero = ap (λ (k : ℕ). k ∷ []) (let e : a + 0 ≡ a = omega arith in e)
range_push a (suc n) =
    ap (λ (ks : List ℕ). a ∷ ks) (ap (λ (k : ℕ). range_with_len (a + 1) n ++ k ∷ []) (let e : a + suc n ≡ a + 1 + n = omega arith in e) ∙ range_push (a + 1) n)
    ∙ ap (range_with_len a) (let e : suc (n + 1) ≡ suc n + 1 = omega arith in e)

pub one_more : (leaves n : ℕ) (old new : List ℕ) → leaves ≤ n → old ≡ range_with_len leaves (n - leaves) → new ≡ old ++ n ∷ [] → new ≡ range_with_len leaves (n + 1 - leaves)
one_more leaves n old new h e f =
    f ∙ (ap (λ (ks : List ℕ). ks ++ n ∷ []) e
    ∙ (ap (λ (k : ℕ). range_with_len leaves (n - leaves) ++ k ∷ []) (let g : n ≡ leaves + (n - leaves) = omega arith in g)
    ∙ (range_push leaves (n - leaves) ∙ ap (range_with_len leaves) (let g : n - leaves + 1 ≡ n + 1 - leaves = omega arith in g))))

all_below : (a n bound : ℕ) → a + n ≤ bound → AllByRecursion (λ k. k < bound) (range_with_len a n)
all_below a zero bound h = tt
all_below a (suc n) bound h = (omega arith, all_below (a + 1) n bound (omega arith))

pub all_closed : (net : GateList) → IsGateList net → AreClosed net (range_with_len net.leaves (length net.gates))
all_closed net well = record {
  rise = range_rises net.leaves net.leaves (length net.gates) (omega arith);
  within = all_below net.leaves (length net.gates) (net_count net) (omega arith);
  closed = λ n k c r low.
      let less = net_reads_below net n k well r in
      let h = slice_get_within net.gates r.place r.gate r.is_gate in
      let e = r.number in
      contains_at (range_with_len net.leaves (length net.gates)) (k - net.leaves) k (get_in_range net.leaves (length net.gates) (k - net.leaves) (omega arith) ∙ ap (λ (q : ℕ). Some q) (let g : net.leaves + (k - net.leaves) ≡ k = omega arith in g));
}

-- ---- the call

pub on_ok : {A B : Type 0} (r : Result A B) (P Q : Type 0) → OnOk r P → (P → Q) → OnOk r Q
on_ok (Ok a) P Q p f = f p
on_ok (Err b) P Q p f = p

pub copied_all : (src : GateList) (leaf cells : List ℕ) (old new : GateList) → IsGateList src → length leaf ≡ src.leaves → cells ≡ range_with_len src.leaves (length src.gates)
    → (hs : List GateForm) × (new ≡ record old { gates = old.gates ++ hs }) × AreCopied src leaf cells (net_count old) cells hs → IsCopyOfAll src leaf (net_count old) new
copied_all src leaf ns old new well long same (hs, is, copied) =
    subst (λ (net : GateList). IsCopyOfAll src leaf (net_count old) net) (sym is)
    (whole_copy src leaf old hs well long (subst (λ (ks : List ℕ). AreCopied src leaf ks (net_count old) ks hs) same copied))
