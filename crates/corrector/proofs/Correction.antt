-- The syndrome, the hits and the turned places of a word together.
use Rattle.std.proofs.Common.{◌≡◌, sym, ◌∙◌, ap, ap₂, subst, refl, ℕ, zero, suc, ◌+◌, ◌*◌, ◌==◌, ◌<◌, ◌≤◌, ◌⊎◌, inl, inr, Bool, true, false, cond, ◌&&◌, ◌||◌, List, [], ◌∷◌, ◌++◌, length, map, get_or, drop, Contains, arith, ne_eqb}
use Rattle.std.specs.Bool.{beq}
use Rattle.std.specs.List.{AllByRecursion, enumerate_from, list_all, list_any, range_with_len}
use Rattle.std.proofs.lemmas.List.{length-append, length-map, map-append, get_or_append_left, take-append-drop}
use Rattle.std.proofs.lemmas.List.Sums.{sum_by-cons}
use Rattle.std.proofs.Math.Nat.{mul-le-mul_right}
use Rattle.netlist_spec.specs.Covers.{differ, has_bit}
use Rattle.netlist_spec.specs.SourceRun.{Bits}
use Rattle.netlist_spec.specs.Gates.{GateList, GateForm, IsGateList, AnswersWithin}
use Rattle.netlist_spec.specs.GateRanges.{Region}
use Rattle.guard_spec.specs.Codes.{Code, IsCode, IsDistance, Pattern, IsPattern, ArePatterns, apart, bits_of, data_places, encoded, syndrome_of, weight}
use Rattle.guard_spec.specs.Plain.{ones, pattern_count, corrector_cost}
use Rattle.block_code.proofs.Coding.{weight_ones}
use Rattle.distance.specs.declared.error_patterns.Pattern.{Pattern as Found}
use Rattle.distance.specs.Patterns.{pattern_of}
use Rattle.gate_net.specs.GateNet.{net_count}
use Rattle.gate_net.specs.Words.{WordNets, nets_of}
use Rattle.cone_split.specs.Ranges.{KeepsGates, IsAppended, ReadsAlone}
use Rattle.cone_split.proofs.Cells.{all_contains, contains_cases, contains_tail}
use Rattle.cone_split.proofs.Copied.{net_reads_below}
use Rattle.predictor.proofs.Checks.{row_bit}
use Rattle.reduction.specs.Appended.{Extends}
use Rattle.reduction.proofs.Appended.{count_grows}
use Rattle.corrector.specs.declared.hits.Hit.{Hit}
use Rattle.corrector.specs.Computed.{AreComputed}
use Rattle.corrector.specs.Corrected.{IsCorrectorRange}
use Rattle.corrector.specs.Hits.{hit_nets, hits_at, some_hit, spells}
use Rattle.corrector.proofs.Computed.{computed_behind, in_left}
use Rattle.corrector.proofs.Decoding.{found_error, decoded}
use Rattle.corrector.proofs.Patterns.{few_patterns}
use Rattle.corrector.proofs.SyndromeBits.{row_ones, row_few, syndrome_long}

-- ---- lists of gates that grow

pub kept : (old new : GateList) → Extends old new → KeepsGates old new
kept old new e =
    let back : List GateForm = drop (length old.gates) new.gates in
    (back, ap₂ (λ (l : ℕ) (gs : List GateForm). record { leaves = l; gates = gs }) e.leaves (sym (take-append-drop (length old.gates) new.gates) ∙ ap (λ (gs : List GateForm). gs ++ back) e.gates))

-- ---- the bits of a syndrome as a number

same_bit : (b x : Bool) (rest : Bool) (k : ℕ) → rest ≡ (k == 0) → (beq b x && rest) ≡ ((cond (differ x b) 1 0 + k) == 0)
same_bit true true rest k e = e ∙ ap (λ (n : ℕ). n == 0) (let z : k ≡ 0 + k = omega arith in z)
same_bit false false rest k e = e ∙ ap (λ (n : ℕ). n == 0) (let z : k ≡ 0 + k = omega arith in z)
same_bit true false rest k e = sym (ne_eqb (1 + k) 0 (λ z. omega arith))
same_bit false true rest k e = sym (ne_eqb (1 + k) 0 (λ z. omega arith))

spells_from : (n a : ℕ) (bits : Bits) → list_all (λ (p : ℕ × Bool). beq p.1 (has_bit n p.0)) (enumerate_from a bits) ≡ (apart (map (λ i. has_bit n i) (range_with_len a (length bits))) bits == 0)
spells_from n a [] = refl
spells_from n a (b ∷ bits) = same_bit b (has_bit n a) (list_all (λ (p : ℕ × Bool). beq p.1 (has_bit n p.0)) (enumerate_from (a + 1) bits)) (apart (map (λ i. has_bit n i) (range_with_len (a + 1) (length bits))) bits) (spells_from n (a + 1) bits)

spells_apart : (n width : ℕ) (bits : Bits) → length bits ≡ width → spells n bits ≡ (apart (bits_of width n) bits == 0)
spells_apart n width bits e = spells_from n 0 bits ∙ ap (λ (w : ℕ). apart (bits_of w n) bits == 0) e

-- ---- hits and patterns

and_turned : (a b : Bool) → (a && b) ≡ (b && a)
and_turned true true = refl
and_turned true false = refl
and_turned false true = refl
and_turned false false = refl

-- a hit is 1 where its pattern is found
hits_tell : (v : ℕ → Bool) (i : ℕ) (hits : List Hit) (pats : List Found) (g : Found → Bool) → map (λ (h : Hit). h.error.0) hits ≡ map (λ (p : Found). p.error.0) pats → map v (hit_nets hits) ≡ map g pats
    → some_hit i hits v ≡ list_any (λ (p : Found). has_bit p.error.0 i && g p) pats
hits_tell v i [] [] g e f = refl
hits_tell v i [] (p ∷ pats) g e f = cc e
hits_tell v i (h ∷ hits) [] g e f = cc e
hits_tell v i (h ∷ hits) (p ∷ pats) g e f =
    let error : h.error.0 ≡ p.error.0 = cc e in
    let errors : map (λ (x : Hit). x.error.0) hits ≡ map (λ (q : Found). q.error.0) pats = cc e in
    let bit : v h.net.0 ≡ g p = cc f in
    let bits : map v (hit_nets hits) ≡ map g pats = cc f in
    ap₂ (λ (x y : Bool). x || y) (ap₂ (λ (n : ℕ) (b : Bool). has_bit n i && b) error bit) (hits_tell v i hits pats g errors bits)

patterns_tell : (i width columns : ℕ) (syndrome : Bits) (pats : List Found) → i < width → length syndrome ≡ columns
    → list_any (λ (p : Found). has_bit p.error.0 i && spells p.syndrome.0 syndrome) pats ≡ found_error (map (pattern_of width columns) pats) syndrome i
patterns_tell i width columns syndrome [] h long = refl
patterns_tell i width columns syndrome (p ∷ pats) h long =
    ap₂ (λ (x y : Bool). x || y)
    (and_turned (has_bit p.error.0 i) (spells p.syndrome.0 syndrome)
    ∙ ap₂ (λ (x y : Bool). x && y) (spells_apart p.syndrome.0 columns syndrome long) (sym (row_bit width p.error.0 i h)))
    (patterns_tell i width columns syndrome pats h long)

-- ---- places that are turned

turned_from : (f : ℕ → Bool) (a : ℕ) (bits u : Bits) → length u ≡ length bits → ((i : ℕ) → i < length bits → get_or u i false ≡ differ (get_or bits i false) (f (a + i)))
    → map (λ (p : ℕ × Bool). differ p.1 (f p.0)) (enumerate_from a bits) ≡ u
turned_from f a [] [] long each = refl
turned_from f a [] (x ∷ u) long each = absurd (omega arith)
turned_from f a (b ∷ bits) [] long each = absurd (omega arith)
turned_from f a (b ∷ bits) (x ∷ u) long each =
    ap₂ (λ (y : Bool) (ys : Bits). y ∷ ys)
    (sym (each 0 (omega arith) ∙ ap (λ (k : ℕ). differ b (f k)) (let z : a + 0 ≡ a = omega arith in z)))
    (turned_from f (a + 1) bits u (omega arith) (λ i h. each (suc i) (omega arith) ∙ ap (λ (k : ℕ). differ (get_or bits i false) (f k)) (let z : a + suc i ≡ a + 1 + i = omega arith in z)))

-- ---- how many gates the hits take

-- the errors of one pattern at the first places
abbrev errors_at : ℕ → ℕ → ℕ
errors_at e zero = 0
errors_at e (suc i) = errors_at e i + cond (has_bit e i) 1 0

one_hit : (h : Hit) (hits : List Hit) (n : ℕ) → hits_at n (h ∷ hits) ≡ errors_at h.error.0 n + hits_at n hits
one_hit h hits zero = refl
one_hit h hits (suc n) =
    let rest = one_hit h hits n in
    let one = sum_by-cons (λ (x : Hit). cond (has_bit x.error.0 n) 1 0) h hits in
    omega arith

errors_row : (e width n : ℕ) → n ≤ width → errors_at e n ≡ row_ones (bits_of width e) n
errors_row e width zero h = refl
errors_row e width (suc n) h =
    let rest = errors_row e width n (omega arith) in
    let same : cond {A = ℕ} (get_or (bits_of width e) n false) 1 0 ≡ cond {A = ℕ} (has_bit e n) 1 0 = ap (λ (b : Bool). cond {A = ℕ} b 1 0) (row_bit width e n (omega arith)) in
    omega arith

few_hits : (width t n : ℕ) (hits : List Hit) → n ≤ width → AllByRecursion (λ e. weight (bits_of width e) ≤ t) (map (λ (h : Hit). h.error.0) hits) → hits_at n hits ≤ length hits * t
few_hits width t n [] h all = no_hits n
  where
    no_hits : (n : ℕ) → hits_at n [] ≤ 0 * t
    no_hits zero = omega arith
    no_hits (suc n) = let k = no_hits n in omega arith
few_hits width t n (x ∷ hits) h all =
    let one = one_hit x hits n in
    let row = errors_row x.error.0 width n h in
    let few = row_few (bits_of width x.error.0) n in
    let same = weight_ones (bits_of width x.error.0) in
    let here = all.0 in
    let rest = few_hits width t n hits h all.1 in
    omega arith

pattern_weights : (code : Code) (m t width columns : ℕ) (pats : List Found) → AllByRecursion (λ (p : Pattern). IsPattern code m t p.error × (p.syndrome ≡ syndrome_of code m p.error)) (map (pattern_of width columns) pats)
    → AllByRecursion (λ e. weight (bits_of width e) ≤ t) (map (λ (p : Found). p.error.0) pats)
pattern_weights code m t width columns [] all = tt
pattern_weights code m t width columns (p ∷ pats) all = (all.0.0.few, pattern_weights code m t width columns pats all.1)

-- ---- what the whole range takes

pub cost_of_hits : (o n p r t m old first : ℕ) → p ≤ n → first ≤ old + o → first + 1 + p * r ≤ old + (o + n * (r + t) + 2 * m + 1)
cost_of_hits o n p r t m old first few syndrome = let a = mul-le-mul_right r few in omega arith

pub cost_of_all : (o n p r t m h old first second : ℕ) → p ≤ n → 1 ≤ m → h ≤ p * t → first ≤ old + o → second ≡ first + 1 + p * r → second + 1 + m + h ≤ old + (o + n * (r + t) + 2 * m + 1)
cost_of_all o n p r t m h old first second few some errors syndrome hits = let a = mul-le-mul_right r few in let b = mul-le-mul_right t few in omega arith

pub few_pats : (code : Code) (m t : ℕ) (pats : List Found) → ArePatterns code m t (map (pattern_of (m + code.columns) code.columns) pats) → length pats ≤ pattern_count code t m
few_pats code m t pats are =
    let few = few_patterns code m t (map (pattern_of (m + code.columns) code.columns) pats) are in
    let long = length-map pats (pattern_of (m + code.columns) code.columns) in
    omega arith

pub few_errors : (code : Code) (m t : ℕ) (pats : List Found) (hits : List Hit) → ArePatterns code m t (map (pattern_of (m + code.columns) code.columns) pats) → map (λ (h : Hit). h.error.0) hits ≡ map (λ (p : Found). p.error.0) pats → hits_at m hits ≤ length pats * t
few_errors code m t pats hits are same =
    let width = m + code.columns in
    let few = few_hits width t m hits (omega arith) (subst (λ (es : List ℕ). AllByRecursion (λ e. weight (bits_of width e) ≤ t) es) (sym same) (pattern_weights code m t width code.columns pats are.each)) in
    let long : length hits ≡ length pats = sym (length-map hits (λ (h : Hit). h.error.0)) ∙ (ap length same ∙ length-map pats (λ (p : Found). p.error.0)) in
    let times = ap (λ (n : ℕ). n * t) long in
    omega arith

-- ---- the whole range

append_cases : (xs ys : List ℕ) (k : ℕ) → Contains (xs ++ ys) k → Contains xs k ⊎ Contains ys k
append_cases [] ys k c = inr c
append_cases (x ∷ xs) ys k c = elim (contains_cases x k (xs ++ ys) c) [
  | inl e ↦ inl (0, omega arith, e)
  | inr d ↦ elim (append_cases xs ys k d) [ inl f ↦ inl (contains_tail x k xs f) | inr f ↦ inr f ]
]

pub all_joined : (P : ℕ → Type 0) (xs ys : List ℕ) → AllByRecursion P xs → AllByRecursion P ys → AllByRecursion P (xs ++ ys)
all_joined P [] ys a b = b
all_joined P (x ∷ xs) ys a b = (a.0, all_joined P xs ys a.1 b)

map_each : {A B : Type 0} (f g : A → B) (xs : List A) → ((x : A) → f x ≡ g x) → map f xs ≡ map g xs
map_each f g [] e = refl
map_each f g (x ∷ xs) e = ap₂ (λ y ys. y ∷ ys) (e x) (map_each f g xs e)

module _ (code : Code) (d t m : ℕ) (word : WordNets) (pats : List Found) (is_code : IsCode code) (is_distance : IsDistance code d) (wide : 2 * t < d)
    (size : m ≡ length word.places) (some : 1 ≤ m) (fits : m ≤ data_places code) (checks : length word.checks ≡ code.columns)
    (are : ArePatterns code m t (map (pattern_of (m + code.columns) code.columns) pats))
    (old first second new : GateList) (syndrome nets : List ℕ) (hits : List Hit) where
  abbrev given : List ℕ
  given = nets_of word

  abbrev told : (ℕ → Bool) → Bits
  told v = syndrome_of code m (map v given)

  -- whether some pattern with this syndrome has an error at the place
  abbrev wrong : (ℕ → Bool) → ℕ → Bool
  wrong v i = list_any (λ (p : Found). has_bit p.error.0 i && spells p.syndrome.0 (told v)) pats

  module _ (a : AreComputed old first given syndrome told) (b : AreComputed first second syndrome (hit_nets hits) (λ v. map (λ (p : Found). spells p.syndrome.0 (map v syndrome)) pats))
      (errors : map (λ (h : Hit). h.error.0) hits ≡ map (λ (p : Found). p.error.0) pats)
      (c : AreComputed second new (word.places ++ hit_nets hits) nets (λ v. map (λ (p : ℕ × Bool). differ p.1 (some_hit p.0 hits v)) (enumerate_from 0 (map v word.places)))) where
    front : AreComputed old second given (hit_nets hits) (λ v. map (λ (p : Found). spells p.syndrome.0 (told v)) pats)
    front = computed_behind old first second given syndrome syndrome (hit_nets hits) told _ _ a.known (λ v e. ap (λ (bits : Bits). map (λ (p : Found). spells p.syndrome.0 bits) pats) e) a b

    pub whole : AreComputed old new given nets (λ v. map (λ (p : ℕ × Bool). differ p.1 (wrong v p.0)) (enumerate_from 0 (map v word.places)))
    whole =
        computed_behind old second new given (word.places ++ hit_nets hits) (hit_nets hits) nets _ _ _
        (λ k e. elim (append_cases word.places (hit_nets hits) k e) [ inl f ↦ inl (in_left word.places word.checks k f) | inr f ↦ front.known k f ])
        (λ v e. map_each (λ (p : ℕ × Bool). differ p.1 (some_hit p.0 hits v)) (λ (p : ℕ × Bool). differ p.1 (wrong v p.0)) (enumerate_from 0 (map v word.places))
        (λ p. ap (differ p.1) (hits_tell v p.0 hits pats (λ (q : Found). spells q.syndrome.0 (told v)) errors e)))
        front c

    value : (v : ℕ → Bool) (u : Bits) → AnswersWithin new (net_count old) (net_count new) v → length u ≡ length word.places → apart (map v given) (encoded code u) ≤ t → map v nets ≡ u
    value v u answers long near = whole.has v answers ∙ turned_from (wrong v) 0 (map v word.places) u (long ∙ sym (length-map word.places v)) each
      where
        each : (i : ℕ) → i < length (map v word.places) → get_or u i false ≡ differ (get_or (map v word.places) i false) (wrong v (0 + i))
        each i h =
            let count = length-map word.places v in
            let parts = map-append v word.places word.checks in
            let all : length (map v given) ≡ m + code.columns = let l = length-map given v in let k = length-append word.places word.checks in omega arith in
            decoded code d t m (map (pattern_of (m + code.columns) code.columns) pats) (map v given) u is_code is_distance wide fits are (long ∙ sym size) near all i (omega arith)
            ∙ (ap₂ differ
            (ap (λ (bs : Bits). get_or bs i false) parts ∙ get_or_append_left (map v word.places) (map v word.checks) false i h)
            (sym (patterns_tell i (m + code.columns) code.columns (told v) pats (omega arith) (syndrome_long code is_code word.places word.checks m size checks v)))
            ∙ ap (λ (k : ℕ). differ (get_or (map v word.places) i false) (wrong v k)) (let z : i ≡ 0 + i = omega arith in z))

    reads : IsGateList new → (r : Region) → IsAppended old new r → ReadsAlone new given r
    reads well r at n k lies read =
        let low = lies.0 in
        let high = lies.1 in
        let begin = at.first in
        let end = at.end in
        let below = net_reads_below new n k well read in
        elim (whole.reads n k (omega arith) read) [ inl e ↦ inl e | inr e ↦ inr (omega arith, omega arith) ]

    pub corrector_is : length syndrome ≡ code.columns → net_count first ≤ net_count old + ones code m → net_count second ≡ net_count first + 1 + length pats * length syndrome
        → net_count new ≡ net_count second + 1 + m + hits_at m hits → length nets ≡ m → IsGateList new → IsCorrectorRange code t word old new nets
    corrector_is long cost_first cost_second cost_new count well = record {
      count = count ∙ size;
      known = λ n e. elim (whole.known n e) [ inl f ↦ inr f | inr low ↦ inl (low, all_contains (λ k. k < net_count new) nets n whole.below e) ];
      grows = count_grows old new whole.extends;
      reads = reads well;
      few =
          let times = ap (λ (r : ℕ). length pats * r) long in
          let few = cost_of_all (ones code m) (pattern_count code t m) (length pats) code.columns t m (hits_at m hits) (net_count old) (net_count first) (net_count second)
          (few_pats code m t pats are) some (few_errors code m t pats hits are errors) cost_first (cost_second ∙ ap (λ (r : ℕ). net_count first + 1 + length pats * r) long) in
          subst (λ (k : ℕ). net_count new ≤ net_count old + corrector_cost code t k) size (let e = cost_new in omega arith);
      value = value;
    }
