-- A joined list grows by one corrector after another, and by a copy of the machine's gates.
use Rattle.std.proofs.Common.{◌≡◌, refl, sym, ◌∙◌, subst, ℕ, ◌+◌, ◌<◌, ◌≤◌, inl, inr, true, false, List, [], ◌∷◌, ◌++◌, length, map, Contains, arith}
use Rattle.std.specs.List.{range_with_len}
use Rattle.std.proofs.lemmas.List.Sums.{sum_by-cons}
use Rattle.netlist_spec.specs.Gates.{GateForm, GateList, ReadsNet}
use Rattle.netlist_spec.specs.CellBits.{latch_bit}
use Rattle.guard_spec.specs.Codes.{Code, encoded, apart}
use Rattle.guard_spec.specs.Plain.{corrector_cost}
use Rattle.netlist_spec.specs.GateRanges.{Region}
use Rattle.gate_net.specs.GateNet.{net_count}
use Rattle.gate_net.proofs.Ranges.{front}
use Rattle.cone_split.proofs.Ranges.{get_cases}
use Rattle.guard_laws.specs.Places.{latches_of_words}
use Rattle.guard_laws.specs.Copies.{range_of}
use Rattle.corrector.specs.Corrected.{IsCorrectorRange}
use Rattle.correction_laws.specs.Joined.{Corrector, IsCorrector, AreCorrectors}
use Rattle.correction_laws.proofs.Lists.{range_below}
use Rattle.std.proofs.lemmas.List.FromFn.{length-range_with_len}
use Rattle.guard_laws.proofs.Lists.{range_join}

pub reads_shorter : (net : GateList) (more : List GateForm) (n k : ℕ) → n < net_count net → ReadsNet (record net { gates = net.gates ++ more }) n k → ReadsNet net n k
reads_shorter net more n k h r =
    elim (get_cases net.gates more r.place r.gate r.is_gate) [
      | inl e ↦ record { place = r.place; number = r.number; gate = r.gate; is_gate = e; reads = r.reads }
      | inr e ↦ absurd (let f = r.number in let d = e.1 in omega arith)
    ]

-- What was appended for a word is its corrector.
pub appended : (code : Code) (t at : ℕ) (w : List ℕ) (old new : GateList) (nets : List ℕ) → at + (length w + code.columns) ≤ new.leaves
    → IsCorrectorRange code t (record { places = range_with_len at (length w); checks = range_with_len (at + length w) code.columns }) old new nets
    → IsCorrector new code t at (record { word = w; nets = nets; first = net_count old; end = net_count new; serves = true })
appended code t at w old new nets room is = record {
  count = is.count ∙ long;
  order = is.grows;
  known = λ n c. elim (is.known n c) [ inl h ↦ inr h | inr d ↦ inl (leaf n d) ];
  reads = λ n k low high net. elim (is.reads range (record { first = refl; end = refl }) n k (low, high) net) [ inl d ↦ inl (leaf k d) | inr h ↦ inr h ];
  few = subst (λ (m : ℕ). net_count new ≤ net_count old + corrector_cost code t m) long is.few;
  idle = λ e. let clash : true ≡ false = e in cc clash;
  value = λ v u serves answers size near. is.value v u answers (size ∙ sym long) (subst (λ (ks : List ℕ). apart (map v ks) (encoded code u) ≤ t) (sym joined) near);
}
  where
    range : Region
    range = range_of (latch_bit 0) old new

    long : length (range_with_len at (length w)) ≡ length w
    long = length-range_with_len at (length w)

    joined : range_with_len at (length w) ++ range_with_len (at + length w) code.columns ≡ range_with_len at (length w + code.columns)
    joined = range_join at (length w) code.columns

    leaf : (n : ℕ) → Contains (range_with_len at (length w) ++ range_with_len (at + length w) code.columns) n → n < new.leaves
    leaf n c = let h = range_below at (length w + code.columns) n (subst (λ (ks : List ℕ). Contains ks n) joined c) in omega arith

-- A word without a corrector.
pub left_out : (net : GateList) (code : Code) (t at n : ℕ) (w nets : List ℕ) → length nets ≡ length w → ((k : ℕ) → Contains nets k → k < net.leaves)
    → IsCorrector net code t at (record { word = w; nets = nets; first = n; end = n; serves = false })
left_out net code t at n w nets long leaf = record {
  count = long;
  order = omega arith;
  known = λ k c. inl (leaf k c);
  reads = λ a k low high r. absurd (omega arith);
  few = omega arith;
  idle = λ e. refl;
  value = λ v u serves. let clash : false ≡ true = serves in cc clash;
}

pub corrector_stays : (net : GateList) (more : List GateForm) (code : Code) (t at : ℕ) (c : Corrector) → c.end ≤ net_count net → IsCorrector net code t at c → IsCorrector (record net { gates = net.gates ++ more }) code t at c
corrector_stays net more code t at c high is = record {
  count = is.count;
  order = is.order;
  known = is.known;
  reads = λ n k low inside r. is.reads n k low inside (reads_shorter net more n k (omega arith) r);
  few = is.few;
  idle = is.idle;
  value = λ v u serves answers size near. is.value v u serves (front net more c.first c.end v answers) size near;
}

up : (net : GateList) (code : Code) (t at from : ℕ) (cs : List Corrector) (end : ℕ) → AreCorrectors net code t at from cs end → from ≤ end
up net code t at from [] end row = omega arith
up net code t at from (c ∷ cs) end (first, is, rest) = let a = is.order in let b = up net code t (at + length c.word + code.columns) c.end cs end rest in omega arith

pub correctors_stay : (net : GateList) (more : List GateForm) (code : Code) (t at from : ℕ) (cs : List Corrector) (end : ℕ) → end ≤ net_count net → AreCorrectors net code t at from cs end → AreCorrectors (record net { gates = net.gates ++ more }) code t at from cs end
correctors_stay net more code t at from [] end high row = row
correctors_stay net more code t at from (c ∷ cs) end high (first, is, rest) =
    let h = up net code t (at + length c.word + code.columns) c.end cs end rest in
    (first, corrector_stays net more code t at c (omega arith) is, correctors_stay net more code t (at + length c.word + code.columns) c.end cs end high rest)

-- one corrector more
pub one_more : (net : GateList) (code : Code) (t at from : ℕ) (cs : List Corrector) (end : ℕ) (c : Corrector) → AreCorrectors net code t at from cs end → c.first ≡ end → IsCorrector net code t (at + latches_of_words code (map (λ d. d.word) cs)) c
    → AreCorrectors net code t at from (cs ++ c ∷ []) c.end
one_more net code t at from [] end c row first is = (first ∙ sym row, subst (λ (n : ℕ). IsCorrector net code t n c) (let e : at + 0 ≡ at = omega arith in e) is, refl)
one_more net code t at from (d ∷ cs) end c (start, here, rest) first is =
    let total = sum_by-cons (λ w. length w + code.columns) d.word (map (λ e. e.word) cs) in (
      start,
      here,
      one_more net code t (at + length d.word + code.columns) d.end cs end c rest first
          (subst (λ (n : ℕ). IsCorrector net code t n c) (let e : at + latches_of_words code (d.word ∷ map (λ e. e.word) cs) ≡ (at + length d.word + code.columns) + latches_of_words code (map (λ e. e.word) cs) = omega arith in e) is),
    )
