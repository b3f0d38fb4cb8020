-- Correctors of words, and the nets that stand for latches.
use Rattle.std.proofs.Common.{◌≡◌, ◌≢◌, refl, sym, ◌∙◌, ap, ap₂, subst, ℕ, zero, suc, ◌+◌, ◌<◌, ◌≤◌, inl, inr, ◌↔◌, ◌==◌, Bool, true, false, List, [], ◌∷◌, ◌++◌, length, map, get_or, set, drop, arith, slice_get, Some, cond, count_by, eq-eqb, Contains, IsTrue}
use Rattle.std.specs.Prelude.{slice_set, sum_by}
use Rattle.std.specs.List.{AllByRecursion, range_with_len}
use Rattle.std.proofs.lemmas.List.{map-set, length-set}
use Rattle.std.proofs.lemmas.List.Elements.{Contains-push_cases}
use Rattle.std.proofs.lemmas.List.FromFn.{length-range_with_len}
use Rattle.std.proofs.lemmas.List.Sums.{sum_by-cons, sum_by-append}
use Rattle.netlist_spec.specs.Gates.{GateList}
use Rattle.gate_net.specs.declared.gate.NetId.{NetId}
use Rattle.gate_net.specs.Gate.{net_number}
use Rattle.gate_net.specs.GateNet.{net_count}
use Rattle.guard_spec.specs.Codes.{Code}
use Rattle.guard_spec.specs.Words.{IsPartition, Words, all_numbers}
use Rattle.guard_laws.specs.Places.{latches_of_words}
use Rattle.cone_split.specs.Ranges.{KeepsGates}
use Rattle.cone_split.proofs.Cells.{all_contains, all_from_contains, at_contains, contains_at, contains_head, contains_tail}
use Rattle.corrector.specs.Corrected.{IsCorrectorRange}
use Rattle.correction_laws.specs.Joined.{AreCorrectors, Corrector, IsCorrector}
use Rattle.correction_laws.proofs.Lists.{range_below}
use Rattle.correction_laws.proofs.Steps.{appended, correctors_stay, left_out, one_more}
use Rattle.correction_laws.proofs.Writes.{written}
use Rattle.joined_net.specs.Marks.{HasMark}
use Rattle.joined_net.specs.Words.{CoversCosts, GainsWords, put_nets}
use Rattle.guard_net.proofs.Lists.{below_kept, keeps_leaves}

-- ---- nets put at numbers

drop_at : {A : Type 0} (xs : List A) (p : ℕ) (d : A) → p < length xs → drop p xs ≡ get_or xs p d ∷ drop (p + 1) xs
drop_at [] p d h = absurd (omega arith)
drop_at (x ∷ xs) zero d h = refl
drop_at (x ∷ xs) (suc p) d h = drop_at xs p d (omega arith) ∙ ap (λ (n : ℕ). get_or xs p d ∷ drop n (x ∷ xs)) (let e : suc (p + 1) ≡ suc p + 1 = omega arith in e)

none_left : (xs : List ℕ) (p : ℕ) → length xs ≤ p → drop p xs ≡ []
none_left [] zero h = refl
none_left [] (suc p) h = refl
none_left (x ∷ xs) zero h = absurd (omega arith)
none_left (x ∷ xs) (suc p) h = none_left xs p (omega arith)

pub net_put : (p : ℕ) (word start : List ℕ) (found nets : List NetId) (none : NetId) → p < length word → length found ≡ length word
    → start ≡ put_nets (drop p word) (map net_number (drop p found)) (map net_number nets)
    → start ≡ put_nets (drop (p + 1) word) (map net_number (drop (p + 1) found)) (map net_number (set nets (get_or word p 0) (get_or found p none)))
net_put p word start found nets none h same e =
    e ∙ ap₂ (λ (ws : List ℕ) (fs : List NetId). put_nets ws (map net_number fs) (map net_number nets)) (drop_at word p 0 h) (drop_at found p none (omega arith))
    ∙ ap (λ (ns : List ℕ). put_nets (drop (p + 1) word) (map net_number (drop (p + 1) found)) ns) (sym (map-set net_number nets (get_or word p 0) (get_or found p none)))

pub all_put : (p : ℕ) (word start : List ℕ) (found nets : List NetId) → length word ≤ p
    → start ≡ put_nets (drop p word) (map net_number (drop p found)) (map net_number nets) → map net_number nets ≡ start
all_put p word start found nets h e = sym (e ∙ ap (λ (ws : List ℕ). put_nets ws (map net_number (drop p found)) (map net_number nets)) (none_left word p h))

-- ---- one word

pub stands_for_itself : (net : GateList) (code : Code) (t at : ℕ) (w nets : List ℕ) (needed : Bool) → needed ≡ false → nets ≡ range_with_len at (length w) → at + (length w + code.columns) ≤ net.leaves
    → IsCorrector net code t at (record { word = w; nets = nets; first = net_count net; end = net_count net; serves = needed })
stands_for_itself net code t at w nets needed off are room =
    subst (λ (b : Bool). IsCorrector net code t at (record { word = w; nets = nets; first = net_count net; end = net_count net; serves = b })) (sym off)
    (left_out net code t at (net_count net) w nets (ap length are ∙ length-range_with_len at (length w)) (λ k c. let h = range_below at (length w) k (subst (λ (ks : List ℕ). Contains ks k) are c) in omega arith))

pub is_corrected : (code : Code) (t at : ℕ) (w : List ℕ) (old new : GateList) (nets : List ℕ) (needed : Bool) → needed ≡ true → KeepsGates old new → at + (length w + code.columns) ≤ old.leaves
    → IsCorrectorRange code t (record { places = range_with_len at (length w); checks = range_with_len (at + length w) code.columns }) old new nets
    → IsCorrector new code t at (record { word = w; nets = nets; first = net_count old; end = net_count new; serves = needed })
is_corrected code t at w old new nets needed on kept room is =
    subst (λ (b : Bool). IsCorrector new code t at (record { word = w; nets = nets; first = net_count old; end = net_count new; serves = b })) (sym on)
    (appended code t at w old new nets (let e = keeps_leaves old new kept in omega arith) is)

pub run_below : (a n m : ℕ) → a + n ≤ m → AllByRecursion (λ k. k < m) (range_with_len a n)
run_below a zero m h = tt
run_below a (suc n) m h = (omega arith, run_below (a + 1) n m (omega arith))

-- ---- what is put where

abbrev times : ℕ → List ℕ → ℕ
times j word = count_by (λ k. k == j) word

one_time_more : (j k : ℕ) (word : List ℕ) → times j (k ∷ word) ≡ cond (k == j) 1 0 + times j word
one_time_more j k word = sum_by-cons (λ (i : ℕ). cond (i == j) 1 0) k word

stands_in_word : (j p : ℕ) (word : List ℕ) → slice_get word p ≡ Some j → 1 ≤ times j word
stands_in_word j p [] is = absurd (cc is)
stands_in_word j zero (k ∷ word) is =
    let same : k ≡ j = cc is in
    let e = one_time_more j k word in
    let f : cond {A = ℕ} (k == j) 1 0 ≡ 1 = ap (λ b. cond {A = ℕ} b 1 0) (eq-eqb k j same) in
    omega arith
stands_in_word j (suc p) (k ∷ word) is = let e = one_time_more j k word in let h = stands_in_word j p word is in omega arith

set_here : (nets : List ℕ) (j at : ℕ) → j < length nets → slice_get (slice_set nets j at) j ≡ Some at
set_here [] j at h = absurd (omega arith)
set_here (n ∷ nets) zero at h = refl
set_here (n ∷ nets) (suc j) at h = set_here nets j at (omega arith)

set_other : (nets : List ℕ) (i j at : ℕ) → i ≢ j → slice_get (slice_set nets i at) j ≡ slice_get nets j
set_other [] i j at e = refl
set_other (n ∷ nets) zero zero at e = absurd (e refl)
set_other (n ∷ nets) zero (suc j) at e = refl
set_other (n ∷ nets) (suc i) zero at e = refl
set_other (n ∷ nets) (suc i) (suc j) at e = set_other nets i j at (λ f. e (ap suc f))

put_other : (j : ℕ) (word found nets : List ℕ) → (Contains word j → ⊥) → slice_get (put_nets word found nets) j ≡ slice_get nets j
put_other j [] found nets none = refl
put_other j (k ∷ word) [] nets none = refl
put_other j (k ∷ word) (n ∷ found) nets none =
    put_other j word found (slice_set nets k n) (λ c. none (contains_tail k j word c))
    ∙ set_other nets k j n (λ e. none (subst (λ (i : ℕ). Contains (k ∷ word) i) e (contains_head k word)))

put_here : (j p n : ℕ) (word found nets : List ℕ) → times j word ≤ 1 → j < length nets → slice_get word p ≡ Some j → slice_get found p ≡ Some n → slice_get (put_nets word found nets) j ≡ Some n
put_here j p n [] found nets once h is at = absurd (cc is)
put_here j p n (k ∷ word) [] nets once h is at = absurd (cc at)
put_here j zero n (k ∷ word) (m ∷ found) nets once h is at =
    let same : k ≡ j = cc is in
    let net : m ≡ n = cc at in
    let e = one_time_more j k word in
    let f : cond {A = ℕ} (k == j) 1 0 ≡ 1 = ap (λ b. cond {A = ℕ} b 1 0) (eq-eqb k j same) in
    put_other j word found (slice_set nets k m) (λ c. let place = at_contains word j c in let g = stands_in_word j place.0 word place.1 in omega arith)
    ∙ ap (λ (i : ℕ). slice_get (slice_set nets i m) j) same ∙ set_here nets j m h ∙ ap (λ (i : ℕ). Some i) net
put_here j (suc p) n (k ∷ word) (m ∷ found) nets once h is at =
    let e = one_time_more j k word in
    put_here j p n word found (slice_set nets k m) (omega arith) (let l = length-set nets k m in omega arith) is at

put_long : (word found nets : List ℕ) → length (put_nets word found nets) ≡ length nets
put_long [] found nets = refl
put_long (j ∷ word) [] nets = refl
put_long (j ∷ word) (n ∷ found) nets = put_long word found (slice_set nets j n) ∙ length-set nets j n

set_below : (m at j : ℕ) (nets : List ℕ) → at < m → AllByRecursion (λ k. k < m) nets → AllByRecursion (λ k. k < m) (slice_set nets j at)
set_below m at j [] h all = tt
set_below m at zero (n ∷ nets) h all = (h, all.1)
set_below m at (suc j) (n ∷ nets) h all = (all.0, set_below m at j nets h all.1)

put_below : (m : ℕ) (word found nets : List ℕ) → AllByRecursion (λ k. k < m) found → AllByRecursion (λ k. k < m) nets → AllByRecursion (λ k. k < m) (put_nets word found nets)
put_below m [] found nets h all = all
put_below m (j ∷ word) [] nets h all = all
put_below m (j ∷ word) (n ∷ found) nets h all = put_below m word found (slice_set nets j n) h.1 (set_below m n j nets h.0 all)

once_there : (j : ℕ) (front back : Words) (w : List ℕ) → times j (all_numbers (front ++ w ∷ back)) ≤ 1 → times j w ≤ 1
once_there j [] back w once =
    let e : times j (w ++ all_numbers back) ≡ times j w + times j (all_numbers back) = sum_by-append (λ (i : ℕ). cond (i == j) 1 0) w (all_numbers back) in omega arith
once_there j (b ∷ front) back w once =
    let e : times j (b ++ all_numbers (front ++ w ∷ back)) ≡ times j b + times j (all_numbers (front ++ w ∷ back)) = sum_by-append (λ (i : ℕ). cond (i == j) 1 0) b (all_numbers (front ++ w ∷ back)) in
    once_there j front back w (omega arith)

-- ---- one word more

pub sum_split : (f : List ℕ → ℕ) (front back : Words) (w : List ℕ) → sum_by f (front ++ w ∷ back) ≡ sum_by f front + (f w + sum_by f back)
sum_split f front back w = sum_by-append f front (w ∷ back) ∙ ap (λ (n : ℕ). sum_by f front + n) (sum_by-cons f w back)

words_push : (cs : List Corrector) (c : Corrector) → map (λ (d : Corrector). d.word) (cs ++ c ∷ []) ≡ map (λ (d : Corrector). d.word) cs ++ c.word ∷ []
words_push [] c = refl
words_push (d ∷ cs) c = ap (λ (ws : Words). d.word ∷ ws) (words_push cs c)

pub no_words : (code : Code) (t inputs latches : ℕ) (marks : List Bool) (net : GateList) (nets : List ℕ) → net_count net ≡ net.leaves → length nets ≡ latches → AllByRecursion (λ n. n < net_count net) nets
    → GainsWords code t inputs latches marks [] net nets
no_words code t inputs latches marks net nets bare long below = record {
  correctors = [];
  are_words = refl;
  serves = λ c inside. absurd (let h = inside.1 in omega arith);
  row = sym bare;
  corrected = record { count = long; each = λ c p j n inside. absurd (let h = inside.1 in omega arith) };
  below = below;
}

pub words_gained : (code : Code) (t inputs latches k : ℕ) (marks : List Bool) (words back all : Words) (word found : List ℕ) (needed : Bool) (at : ℕ) (old new : GateList) (before after : List ℕ)
    → IsPartition latches k (words ++ word ∷ back) → all ≡ words ++ word ∷ [] → KeepsGates old new → at ≡ inputs + latches_of_words code words → AllByRecursion (λ i. i < latches) word
    → GainsWords code t inputs latches marks words old before
    → IsCorrector new code t at (record { word = word; nets = found; first = net_count old; end = net_count new; serves = needed })
    → (IsTrue needed ↔ HasMark marks inputs word) → after ≡ put_nets word found before → GainsWords code t inputs latches marks all new after
words_gained code t inputs latches k marks words back all word found needed at old new before after partition is_all kept place within g is serves put = record {
  correctors = g.correctors ++ c ∷ [];
  are_words = words_push g.correctors c ∙ ap (λ (ws : Words). ws ++ word ∷ []) g.are_words ∙ sym is_all;
  serves = λ d inside. elim (Contains-push_cases g.correctors c d inside) [ inl e ↦ g.serves d e | inr e ↦ subst (λ (q : Corrector). IsTrue q.serves ↔ HasMark marks inputs q.word) e serves ];
  row = one_more new code t inputs new.leaves g.correctors (net_count old) c stay refl (subst (λ (n : ℕ). IsCorrector new code t n c) (place ∙ ap (λ (ws : Words). inputs + latches_of_words code ws) (sym g.are_words)) is);
  corrected = written g.correctors c back latches k before after (subst (λ (ws : Words). IsPartition latches k (ws ++ word ∷ back)) (sym g.are_words) partition) g.corrected (ap length put ∙ put_long word found before)
      (λ p j n a b. ap (λ (ns : List ℕ). slice_get ns j) put ∙ put_here j p n word found before (once j (all_contains (λ i. i < latches) word j within (contains_at word p j a))) (let h = all_contains (λ i. i < latches) word j within (contains_at word p j a) in let l = g.corrected.count in omega arith) a b)
      (λ j none. ap (λ (ns : List ℕ). slice_get ns j) put ∙ put_other j word found before none);
  below = subst (λ (ns : List ℕ). AllByRecursion (λ n. n < net_count new) ns) (sym put) (put_below (net_count new) word found before (all_from_contains (λ n. n < net_count new) found known) (below_kept old new before kept g.below));
}
  where
    c : Corrector
    c = record { word = word; nets = found; first = net_count old; end = net_count new; serves = needed }

    stay : AreCorrectors new code t inputs new.leaves g.correctors (net_count old)
    stay = subst (λ (net : GateList). AreCorrectors net code t inputs net.leaves g.correctors (net_count old)) (sym kept.1) (correctors_stay old kept.0 code t inputs old.leaves g.correctors (net_count old) (omega arith) g.row)

    once : (j : ℕ) → j < latches → times j word ≤ 1
    once j h = let e = partition.each_once j h in once_there j words back word (omega (arith, e))

    known : (n : ℕ) → Contains found n → n < net_count new
    known n inside = elim (is.known n inside) [ inl h ↦ omega arith | inr h ↦ h.1 ]

pub cost_covered : (code : Code) (t at inputs : ℕ) (marks : List Bool) (word found : List ℕ) (needed : Bool) (old new : GateList) (cost : List ℕ → ℕ) → CoversCosts code t inputs marks cost → (IsTrue needed ↔ HasMark marks inputs word)
    → IsCorrector new code t at (record { word = word; nets = found; first = net_count old; end = net_count new; serves = needed }) → net_count new ≤ net_count old + cost word
cost_covered code t at inputs marks word found true old new cost covers serves is = let a = covers word (serves.0 refl) in let b = is.few in omega arith
cost_covered code t at inputs marks word found false old new cost covers serves is = let e = is.idle refl in omega arith

-- numbers of latches as numbers of marks
pub weaker_within : (n inputs m : ℕ) (word : List ℕ) → inputs + n ≤ m → AllByRecursion (λ i. i < n) word → AllByRecursion (λ i. inputs + i < m) word
weaker_within n inputs m [] room all = tt
weaker_within n inputs m (i ∷ word) room all = ((let h = all.0 in omega arith), weaker_within n inputs m word room all.1)
