-- A copied cone and what follows it, as one range.
use Rattle.std.proofs.Common.{◌≡◌, sym, ◌∙◌, ap, subst, refl, ℕ, zero, suc, ◌+◌, ◌-◌, ◌==◌, ◌<◌, ◌≤◌, ◌^◌, ◌⊎◌, inl, inr, Bool, true, false, List, [], ◌∷◌, ◌++◌, length, map, drop, get_or, Contains, arith, Some, slice_get, Ok, Err, Result, IfOk, OnOk, if◌then◌else◌, ne_eqb}
use Rattle.std.specs.Prelude.{nat_lt}
use Rattle.std.proofs.lemmas.Bool.{ltb-true, ltb-false}
use Rattle.std.specs.declared.alloc.AllocError.{AllocError}
use Rattle.std.specs.List.{AllByRecursion, AllZip}
use Rattle.std.proofs.lemmas.Option.{slice_get_within, slice_get-get_or}
use Rattle.std.proofs.lemmas.List.{length-append, append_assoc, append-nil, length-drop}
use Rattle.netlist_spec.specs.Covers.{parity}
use Rattle.netlist_spec.specs.Gates.{GateForm, GateList, IsGateList, AnswersWithin, ReadsNet, gate_reads}
use Rattle.netlist_spec.specs.GateRanges.{Region, LiesIn, LeadsToEnd, is_end, is_read as leads_on}
use Rattle.gate_net.specs.declared.gate.NetId.{NetId}
use Rattle.gate_net.specs.GateNet.{net_count}
use Rattle.cone_split.specs.Cones.{IsInCone, is_root, is_read, HasRoom, IsConeSize, xor_count}
use Rattle.cone_split.specs.Copies.{AreConeOf, HasImage, IsImage, AreCopied, sum_gates}
use Rattle.cone_split.specs.Ranges.{IsAppended, IsCopy}
use Rattle.cone_split.proofs.Cells.{contains_head, contains_cases, contains_at, at_contains, lt_eq_gt, all_contains, all_from_contains, rises_above, rises_apart}
use Rattle.cone_split.proofs.Copied.{net_reads_below, zip_length, zip_left}
use Rattle.cone_split.proofs.Leads.{reads_alone, all_lead}
use Rattle.cone_split.proofs.Ranges.{get_right, longer, longer_count, behind_answers, behind_reads}
use Rattle.cone_split.proofs.Sizes.{cells_size, one_size}
use Rattle.cone_split.proofs.Sums.{sum_reads, sum_chain, sum_each, sum_length, sum_value}
use Rattle.cone_split.proofs.Values.{all_image_bits}

-- ---- room and images

pub room_for_cells : (src : GateList) (roots cells : List ℕ) (dst : GateList) → AreConeOf src roots cells → HasRoom src roots dst → net_count dst + length cells + length roots + 1 ≤ 2 ^ 23
room_for_cells src roots cells dst cone room = room (length cells) (cells_size src roots cells cone)

pub roots_have_images : (src : GateList) (roots cells : List ℕ) (leaves : ℕ) → AreConeOf src roots cells → leaves ≡ src.leaves → AllByRecursion (HasImage leaves cells) roots
roots_have_images src roots cells leaves cone e = all_from_contains (HasImage leaves cells) roots (λ n c low. cone.roots_in n c (omega arith))

-- the nets that stand for others are there
pub images_below : (leaf cells : List ℕ) (first bound : ℕ) (roots nets : List ℕ) → AllByRecursion (λ n. n < first) leaf → first + length cells ≤ bound → AllZip (IsImage leaf cells first) roots nets → AllByRecursion (λ n. n < bound) nets
images_below leaf cells first bound roots nets below room images =
    all_from_contains (λ n. n < bound) nets (λ m c.
    let (p, at_p) = at_contains nets m c in
    let (n, at_n, image) = zip_left _ roots nets p m images at_p in
    elim image [
      | inl e ↦ (let h = all_contains (λ q. q < first) leaf m below (contains_at leaf n m e) in omega arith)
      | inr f ↦ (let h = slice_get_within cells f.1.0 n f.1.1 in let e = f.1.2 in omega arith)
    ])

-- ---- the whole range

module _ (src : GateList) (roots leaf cells nets : List ℕ) (old : GateList) (hs tail : List GateForm) (well : IsGateList src) (cone : AreConeOf src roots cells) (long : length leaf ≡ src.leaves)
    (copied : AreCopied src leaf cells (net_count old) cells hs) (images : AllZip (IsImage leaf cells (net_count old)) roots nets) where
  abbrev whole : GateList
  whole = longer old (hs ++ tail)

  abbrev Answers : (ℕ → Bool) → Type 0
  Answers v = AnswersWithin whole (net_count old) (net_count whole) v

  count : net_count whole ≡ net_count old + (length hs + length tail)
  count = longer_count old (hs ++ tail) ∙ ap (λ (n : ℕ). net_count old + n) (length-append hs tail)

  is_copy : (last : ℕ) → net_count old ≤ last → net_count whole ≡ last + 1 → length tail ≤ length roots + 1
      → ((i k : ℕ) (g : GateForm) → slice_get tail i ≡ Some g → Contains (gate_reads g) k → Contains nets k ⊎ ((j : ℕ) × (j < i) × (k ≡ net_count old + length hs + j)))
      → ((r : Region) → IsAppended old whole r → (m : ℕ) → Contains nets m → LiesIn r m → LeadsToEnd whole r m)
      → ((r : Region) → IsAppended old whole r → (i : ℕ) → i < length tail → LeadsToEnd whole r (net_count old + length hs + i))
      → ((v : ℕ → Bool) → Answers v → v last ≡ parity (map v nets)) → IsCopy src roots leaf old whole last
  is_copy last new end short tail_reads nets_lead tail_leads value = record {
    is_new = new;
    is_last = end;
    reads = λ r a. reads_alone src roots leaf cells nets old hs tail cone long copied images r a.first (a.end ∙ count) tail_reads;
    leads = λ r a. all_lead src roots leaf cells nets old hs tail cone long copied images r a.first (a.end ∙ count) (nets_lead r a) (tail_leads r a);
    size = length cells;
    is_size = cells_size src roots cells cone;
    few = (let c = count in let l = zip_length _ cells hs copied in omega arith);
    value = λ v u answers evaluation. value v answers ∙ ap parity (all_image_bits src leaf cells old hs tail well cone.all.rise long copied v u answers evaluation roots nets images);
  }

-- ---- a sum behind the cells

module _ (src : GateList) (roots leaf cells nets : List ℕ) (old : GateList) (hs : List GateForm) (well : IsGateList src) (cone : AreConeOf src roots cells) (long : length leaf ≡ src.leaves)
    (copied : AreCopied src leaf cells (net_count old) cells hs) (images : AllZip (IsImage leaf cells (net_count old)) roots nets) where
  abbrev b : ℕ
  b = net_count old + length hs

  abbrev sum : List GateForm
  sum = sum_gates b nets

  abbrev all : GateList
  all = longer old (hs ++ sum)

  total : net_count all ≡ b + length (drop 2 nets) + 1
  total = let c = longer_count old (hs ++ sum) in let l = length-append hs sum in let s = sum_length b nets in omega arith

  sum_net_reads : (i k : ℕ) (g : GateForm) → slice_get sum i ≡ Some g → Contains (gate_reads g) k → (n : ℕ) → n ≡ b + i → ReadsNet all n k
  sum_net_reads i k g e c n is =
      let z : net_count old + (length hs + i) ≡ n = omega arith in
      subst (λ (q : ℕ). ReadsNet all q k) z (behind_reads old (hs ++ sum) (length hs + i) k g (get_right hs sum i ∙ e) c)

  module _ (r : Region) (a : IsAppended old all r) where
    lies : (i : ℕ) → i < length sum → LiesIn r (b + i)
    lies i h = let f = a.first in let e = a.end in let t = total in let s = sum_length b nets in (omega arith, omega arith)

    chain_leads : (d i : ℕ) → i + d + 1 ≡ length sum → LeadsToEnd all r (b + i)
    chain_leads zero i e = is_end (let f = a.end in let t = total in let s = sum_length b nets in omega arith)
    chain_leads (suc d) i e =
        let (g, at, c) = sum_chain b nets i (omega arith) in
        leads_on (lies (suc i) (omega arith)) (sum_net_reads (suc i) (b + i) g at c (b + suc i) refl) (chain_leads d (suc i) (omega arith))

    sum_leads : (i : ℕ) → i < length sum → LeadsToEnd all r (b + i)
    sum_leads i h = chain_leads (length sum - i - 1) i (omega arith)

    sum_nets_lead : (m : ℕ) → Contains nets m → LiesIn r m → LeadsToEnd all r m
    sum_nets_lead m c inside =
        let (i, g, at, reads) = sum_each b nets m c in
        let h = slice_get_within sum i g at in
        leads_on (lies i h) (sum_net_reads i m g at reads (b + i) refl) (sum_leads i h)

  sum_is_copy : (last : ℕ) → net_count all ≡ last + 1 → IsCopy src roots leaf old all last
  sum_is_copy last e =
      let t = total in
      let s = sum_length b nets in
      let l = zip_length _ roots nets images in
      let d = length-drop 2 nets in
      is_copy src roots leaf cells nets old hs sum well cone long copied images last (omega arith) e (omega arith)
      (λ i k g at c. sum_reads b nets i k g at c) sum_nets_lead sum_leads
      (λ v answers. ap v (let z : last ≡ b + length (drop 2 nets) = omega arith in z)
      ∙ sum_value v b nets (λ i g at. ap v (let z : b + i ≡ net_count old + (length hs + i) = omega arith in z) ∙ behind_answers old (hs ++ sum) v (length hs + i) g answers (get_right hs sum i ∙ at)))

  -- from what the parts say of the longer lists
  pub sum_copies : (middle new : GateList) (r : Result NetId AllocError) → middle ≡ record old { gates = old.gates ++ hs } → OnOk r (new ≡ record middle { gates = middle.gates ++ sum_gates (net_count middle) nets }) → IfOk r (λ n. net_count new ≡ n.0 + 1)
      → IfOk r (λ n. IsCopy src roots leaf old new n.0)
  sum_copies middle new (Err e) is more last = tt
  sum_copies middle new (Ok n) is more last =
      let same : new ≡ all = more ∙ joined in
      subst (λ (net : GateList). IsCopy src roots leaf old net n.0) (sym same) (sum_is_copy n.0 (ap net_count (sym same) ∙ last))
    where
      joined : record middle { gates = middle.gates ++ sum_gates (net_count middle) nets } ≡ all
      joined =
          ap (λ (m : GateList). record m { gates = m.gates ++ sum_gates (net_count m) nets }) is
          ∙ (ap (λ (k : ℕ). record old { gates = old.gates ++ hs ++ sum_gates k nets }) (longer_count old hs)
          ∙ ap (λ (gs : List GateForm). record old { gates = gs }) (append_assoc old.gates hs sum))

-- ---- a root that is the last of its cone

cone_below : (net : GateList) (root n : ℕ) → IsGateList net → IsInCone net (root ∷ []) n → n ≤ root
cone_below net root n well (is_root c) = elim (contains_cases root n [] c) [ inl e ↦ omega arith | inr d ↦ absurd (let h = d.1 in omega arith) ]
cone_below net root n well (is_read {n = m} inc r) = let h = cone_below net root m well inc in let k = net_reads_below net m n well r in omega arith

module _ (src : GateList) (root : ℕ) (leaf cells : List ℕ) (old : GateList) (hs : List GateForm) (well : IsGateList src) (cone : AreConeOf src (root ∷ []) cells) (long : length leaf ≡ src.leaves)
    (copied : AreCopied src leaf cells (net_count old) cells hs) (some : 0 < length cells) where
  abbrev place : ℕ
  place = length cells - 1

  at_last : slice_get cells place ≡ Some root
  at_last =
      let greatest = get_or cells place 0 in
      let at : slice_get cells place ≡ Some greatest = slice_get-get_or cells place 0 (omega arith) in
      let there = contains_at cells place greatest at in
      let low = rises_above src.leaves cells greatest cone.all.rise there in
      let high = cone_below src root greatest well (cone.alone greatest there) in
      let (j, at_j) = at_contains cells root (cone.roots_in root (contains_head root []) (omega arith)) in
      let inside = slice_get_within cells j root at_j in
      elim (lt_eq_gt j place) [
        | inl h ↦ absurd (let up = rises_apart src.leaves cells j place root greatest cone.all.rise h at_j at in omega arith)
        | inr (inl h) ↦ ap (λ (p : ℕ). slice_get cells p) (sym h) ∙ at_j
        | inr (inr h) ↦ absurd (omega arith)
      ]

  root_is_copy : (last : ℕ) → net_count (longer old (hs ++ [])) ≡ last + 1 → IsCopy src (root ∷ []) leaf old (longer old (hs ++ [])) last
  root_is_copy last e =
      let c = longer_count old (hs ++ []) in
      let l = length-append hs [] in
      let same = zip_length _ cells hs copied in
      let own = rises_above src.leaves cells root cone.all.rise (contains_at cells place root at_last) in
      is_copy src (root ∷ []) leaf cells (last ∷ []) old hs [] well cone long copied (inr (omega arith, (place, at_last, omega arith)), tt) last (omega arith) e (omega arith)
      (λ i k g at reads. cc at)
      (λ r a m there inside. elim (contains_cases last m [] there) [ inl f ↦ is_end (let end = a.end in omega arith) | inr f ↦ absurd (let h = f.1 in omega arith) ])
      (λ r a i h. absurd (omega arith))
      (λ v answers. sym (one_net (v last)))
    where
      one_net : (x : Bool) → parity (x ∷ []) ≡ x
      one_net false = refl
      one_net true = refl

  pub root_copies : (new : GateList) (last : ℕ) → new ≡ record old { gates = old.gates ++ hs } → net_count new ≡ last + 1 → IsCopy src (root ∷ []) leaf old new last
  root_copies new last is end =
      let same : new ≡ longer old (hs ++ []) = is ∙ ap (λ (gs : List GateForm). record old { gates = old.gates ++ gs }) (sym (append-nil hs)) in
      subst (λ (net : GateList). IsCopy src (root ∷ []) leaf old net last) (sym same) (root_is_copy last (ap net_count (sym same) ∙ end))

pub last_copies : (src : GateList) (roots leaf cells : List ℕ) (old new : GateList) (hs : List GateForm) (last : ℕ) → IsGateList src → AreConeOf src roots cells → length leaf ≡ src.leaves → AreCopied src leaf cells (net_count old) cells hs → length roots ≡ 1 → 0 < length cells
    → new ≡ record old { gates = old.gates ++ hs } → net_count new ≡ last + 1 → IsCopy src roots leaf old new last
last_copies src [] leaf cells old new hs last well cone long copied one some is end = absurd (omega arith)
last_copies src (root ∷ []) leaf cells old new hs last well cone long copied one some is end = root_copies src root leaf cells old hs well cone long copied some new last is end
last_copies src (root ∷ other ∷ roots) leaf cells old new hs last well cone long copied one some is end = absurd (omega arith)

pub not_zero : (n : ℕ) (empty : Bool) → empty ≡ (n == 0) → empty ≡ false → 0 < n
not_zero zero empty e f = let clash : true ≡ false = sym e ∙ f in cc clash
not_zero (suc n) empty e f = omega arith

-- how far the list has come behind the cells
pub cells_count : (src : GateList) (leaf cells ns : List ℕ) (first : ℕ) (old new : GateList) (hs : List GateForm) → new ≡ record old { gates = old.gates ++ hs } → AreCopied src leaf cells first ns hs → net_count new ≡ net_count old + length ns
cells_count src leaf cells ns first old new hs is copied =
    let same = zip_length _ ns hs copied in
    let l = length-append old.gates hs in
    let e = ap net_count is in
    omega arith

-- ---- how many gates the copy takes

-- a single root whose cone has gates is a gate
root_takes_none : (src : GateList) (roots cells : List ℕ) → IsGateList src → AreConeOf src roots cells → length roots ≡ 1 → 0 < length cells → xor_count src roots ≡ 0
root_takes_none src [] cells well cone one some = absurd (omega arith)
root_takes_none src (root ∷ []) cells well cone one some =
    let first = get_or cells 0 0 in
    let there = contains_at cells 0 first (slice_get-get_or cells 0 0 some) in
    let low = rises_above src.leaves cells first cone.all.rise there in
    let high = cone_below src root first well (cone.alone first there) in
    by_test (nat_lt root src.leaves) refl (omega arith)
  where
    by_test : (b : Bool) → nat_lt root src.leaves ≡ b → src.leaves ≤ root → let n : ℕ = if b then 1 else 0 in n ≡ 0
    by_test true test h = absurd (let below = ltb-true root src.leaves test in omega arith)
    by_test false test h = refl
root_takes_none src (root ∷ other ∷ roots) cells well cone one some = absurd (omega arith)

sum_takes : (src : GateList) (roots cells : List ℕ) → AreConeOf src roots cells → (length roots ≡ 1 → length cells ≡ 0) → xor_count src roots ≡ length roots - 2 + 1
sum_takes src [] cells cone none = refl
sum_takes src (root ∷ []) cells cone none = by_test (nat_lt root src.leaves) refl
  where
    by_test : (b : Bool) → nat_lt root src.leaves ≡ b → let n : ℕ = if b then 1 else 0 in n ≡ 1
    by_test true test = refl
    by_test false test =
        let there = cone.roots_in root (contains_head root []) (ltb-false root src.leaves test) in
        let inside = there.1 in
        let empty : length cells ≡ 0 = none refl in
        absurd (omega arith)
sum_takes src (root ∷ other ∷ roots) cells cone none = omega arith

pub root_count : (src : GateList) (roots cells : List ℕ) (old new : GateList) → IsGateList src → AreConeOf src roots cells → length roots ≡ 1 → 0 < length cells → net_count new ≡ net_count old + length cells
    → (size : ℕ) → IsConeSize src roots size → net_count new ≡ net_count old + size + xor_count src roots
root_count src roots cells old new well cone one some count size is =
    let same = one_size src roots size (length cells) is (cells_size src roots cells cone) in
    let none = root_takes_none src roots cells well cone one some in
    omega arith

pub sum_count : (src : GateList) (roots cells nets : List ℕ) (old middle new : GateList) (r : Result NetId AllocError) → AreConeOf src roots cells → (length roots ≡ 1 → length cells ≡ 0) → length roots ≡ length nets → net_count middle ≡ net_count old + length cells
    → OnOk r (new ≡ record middle { gates = middle.gates ++ sum_gates (net_count middle) nets }) → OnOk r ((size : ℕ) → IsConeSize src roots size → net_count new ≡ net_count old + size + xor_count src roots)
sum_count src roots cells nets old middle new (Err e) cone none long count more = tt
sum_count src roots cells nets old middle new (Ok n) cone none long count more = λ size is.
    let same = one_size src roots size (length cells) is (cells_size src roots cells cone) in
    let takes = sum_takes src roots cells cone none in
    let whole = ap net_count more in
    let joined = length-append middle.gates (sum_gates (net_count middle) nets) in
    let sum = sum_length (net_count middle) nets in
    let behind = length-drop 2 nets in
    omega arith

pub is_zero : (n : ℕ) (empty : Bool) → empty ≡ (n == 0) → empty ≡ true → n ≡ 0
is_zero zero empty e f = refl
is_zero (suc n) empty e f = let clash : false ≡ true = sym (ne_eqb (suc n) 0 (λ (z : suc n ≡ 0). absurd (omega arith))) ∙ (sym e ∙ f) in cc clash
