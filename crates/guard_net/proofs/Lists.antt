-- Lists, their parts and words.
use Rattle.std.proofs.Common.{◌≡◌, refl, sym, ◌∙◌, ap, ap₂, subst, ℕ, zero, suc, ◌+◌, ◌-◌, ◌<◌, ◌≤◌, List, [], ◌∷◌, ◌++◌, length, map, get_or, take, drop, arith, slice_get, Some, All, Vec, append_assoc}
use Rattle.std.specs.Prelude.{slice_range}
use Rattle.std.specs.List.{AllByRecursion, range_with_len}
use Rattle.std.specs.declared.alloc.Global.{Global}
use Rattle.std.proofs.lemmas.List.{get_or-drop, length-drop, take_more, take-map, drop-map}
use Rattle.std.proofs.lemmas.List.Elements.{All-from_recursion}
use Rattle.netlist_spec.proofs.OneValue.{All_front, All_back}
use Rattle.guard_spec.specs.Words.{IsPartition, Words, all_numbers}
use Rattle.gate_net.specs.declared.gate.NetId.{NetId}
use Rattle.gate_net.specs.Gate.{net_number}
use Rattle.gate_net.specs.GateNet.{net_count}
use Rattle.netlist_spec.specs.Gates.{GateForm, GateList}
use Rattle.cone_split.specs.Ranges.{KeepsGates}
use Rattle.encode_state.specs.Types.{words_in}
use Rattle.guard_laws.proofs.Lists.{range_join}

-- ---- parts

pub part_more : {A : Type 0} (xs : List A) (a i : ℕ) (d : A) → a + i < length xs → slice_range xs a (a + (i + 1)) ≡ slice_range xs a (a + i) ++ get_or xs (a + i) d ∷ []
part_more {A} xs a i d h =
    let long : i < length (drop a xs) = let e = length-drop a xs in omega arith in
    ap (λ (n : ℕ). take n (drop a xs)) (let e : (a + (i + 1)) - a ≡ i + 1 = omega arith in e)
    ∙ take_more (drop a xs) i d long
    ∙ ap₂ (λ (n : ℕ) (x : A). take n (drop a xs) ++ x ∷ []) (let e : i ≡ (a + i) - a = omega arith in e) (get_or-drop a xs i d)

pub none_of : {A : Type 0} (xs : List A) (a : ℕ) → slice_range xs a (a + 0) ≡ []
none_of xs a = ap (λ (n : ℕ). take n (drop a xs)) (let e : (a + 0) - a ≡ 0 = omega arith in e)

no_elements : {A : Type 0} (m q : ℕ) → take {A = A} m [] ≡ take {A = A} q []
no_elements zero zero = refl
no_elements zero (suc q) = refl
no_elements (suc m) zero = refl
no_elements (suc m) (suc q) = refl

pub take_part : {A : Type 0} (xs : List A) (n k : ℕ) → take n xs ++ slice_range xs n (n + k) ≡ take (n + k) xs
take_part xs zero k = ap (λ (m : ℕ). take m xs) (let e : (0 + k) - 0 ≡ 0 + k = omega arith in e)
take_part [] (suc n) k = no_elements ((suc n + k) - suc n) (suc n + k)
take_part (x ∷ xs) (suc n) k =
    ap (λ ys. x ∷ ys) (ap (λ (m : ℕ). take n xs ++ take m (drop n xs)) (let e : (suc n + k) - suc n ≡ (n + k) - n = omega arith in e) ∙ take_part xs n k)
    ∙ ap (λ (m : ℕ). take m (x ∷ xs)) (let e : suc (n + k) ≡ suc n + k = omega arith in e)

pub numbers_of_part : (nets : List NetId) (a b : ℕ) → map net_number (slice_range nets a b) ≡ slice_range (map net_number nets) a b
numbers_of_part nets a b = sym (ap (take (b - a)) (drop-map net_number a nets) ∙ take-map net_number (b - a) (drop a nets))

pub number_pushed : (a n : ℕ) (old new : List NetId) → map net_number old ≡ range_with_len a n → new ≡ old ++ record { 0 = a + n } ∷ [] → map net_number new ≡ range_with_len a (n + 1)
number_pushed a n old new e f =
    ap (map net_number) f ∙ push old (record { 0 = a + n }) ∙ ap (λ (ns : List ℕ). ns ++ (a + n) ∷ []) e ∙ range_join a n 1
  where
    push : (ns : List NetId) (m : NetId) → map net_number (ns ++ m ∷ []) ≡ map net_number ns ++ net_number m ∷ []
    push [] m = refl
    push (k ∷ ns) m = ap (λ (qs : List ℕ). net_number k ∷ qs) (push ns m)

pub at_place : (P : ℕ → Type 0) (word : List ℕ) (p j : ℕ) → AllByRecursion P word → slice_get word p ≡ Some j → P j
at_place P [] p j all is = absurd (cc is)
at_place P (k ∷ word) zero j all is = let same : k ≡ j = cc is in subst P same all.0
at_place P (k ∷ word) (suc p) j all is = at_place P word p j all.1 is

-- ---- gates

pub keeps_trans : (old mid new : GateList) → KeepsGates old mid → KeepsGates mid new → KeepsGates old new
keeps_trans old mid new (one, e) (two, f) =
    (one ++ two, f ∙ ap (λ (net : GateList). record net { gates = net.gates ++ two }) e ∙ ap (λ (gs : List GateForm). record old { gates = gs }) (append_assoc old.gates one two))

pub keeps_itself : (net : GateList) → KeepsGates net net
keeps_itself net = ([], ap (λ (gs : List GateForm). record net { gates = gs }) (sym (nil net.gates)))
  where
    nil : (gs : List GateForm) → gs ++ [] ≡ gs
    nil [] = refl
    nil (g ∷ gs) = ap (λ hs. g ∷ hs) (nil gs)

pub keeps_leaves : (old new : GateList) → KeepsGates old new → new.leaves ≡ old.leaves
keeps_leaves old new (more, e) = ap (λ (net : GateList). net.leaves) e

pub keeps_count : (old new : GateList) → KeepsGates old new → net_count old ≤ net_count new
keeps_count old new (more, e) =
    let a : net_count new ≡ old.leaves + length (old.gates ++ more) = ap net_count e in
    let b = longer old.gates in
    omega arith
  where
    longer : (gs : List GateForm) → length gs ≤ length (gs ++ more)
    longer [] = omega arith
    longer (g ∷ gs) = let h = longer gs in omega arith

pub below_kept : (old new : GateList) (ns : List ℕ) → KeepsGates old new → AllByRecursion (λ n. n < net_count old) ns → AllByRecursion (λ n. n < net_count new) ns
below_kept old new [] kept h = tt
below_kept old new (n ∷ ns) kept h = let m = keeps_count old new kept in (let k = h.0 in omega arith, below_kept old new ns kept h.1)

-- ---- words

pub word_more : (vecs : List (Vec ℕ Global)) (i : ℕ) (v : Vec ℕ Global) → i < length vecs → v ≡ get_or vecs i v → words_in (take (i + 1) vecs) ≡ words_in (take i vecs) ++ v.items ∷ []
word_more vecs i v h is =
    ap words_in (take_more vecs i v h) ∙ push (take i vecs) (get_or vecs i v) ∙ ap (λ (w : Vec ℕ Global). words_in (take i vecs) ++ w.items ∷ []) (sym is)
  where
    push : (vs : List (Vec ℕ Global)) (w : Vec ℕ Global) → words_in (vs ++ w ∷ []) ≡ words_in vs ++ w.items ∷ []
    push [] w = refl
    push (u ∷ vs) w = ap (λ (ws : Words). u.items ∷ ws) (push vs w)

pub words_cut : (vecs : List (Vec ℕ Global)) (i : ℕ) (v : Vec ℕ Global) → i < length vecs → v ≡ get_or vecs i v → words_in vecs ≡ words_in (take i vecs) ++ v.items ∷ words_in (drop (i + 1) vecs)
words_cut [] i v h is = absurd (omega arith)
words_cut (u ∷ vecs) zero v h is = ap (λ (w : Vec ℕ Global). w.items ∷ words_in vecs) (sym is)
words_cut (u ∷ vecs) (suc i) v h is =
    ap (λ (ws : Words). u.items ∷ ws) (words_cut vecs i v (omega arith) is)
    ∙ ap (λ (n : ℕ). words_in (take (suc i) (u ∷ vecs)) ++ v.items ∷ words_in (drop n (u ∷ vecs))) (let e : suc (i + 1) ≡ suc i + 1 = omega arith in e)

-- what a partition says of each word
pub record IsWordOf (n k : ℕ) (word : List ℕ) : Type 0 where
  pub some : 1 ≤ length word
  pub most : length word ≤ k
  pub within : AllByRecursion (λ i. i < n) word

pub middle_word : (n k : ℕ) (front back : Words) (word : List ℕ) → AllByRecursion (λ w. (1 ≤ length w) × (length w ≤ k)) (front ++ word ∷ back) → AllByRecursion (λ i. i < n) (all_numbers (front ++ word ∷ back)) → IsWordOf n k word
middle_word n k [] back word lengths all = record { some = lengths.0.0; most = lengths.0.1; within = All_front (λ i. i < n) word (all_numbers back) all }
middle_word n k (w ∷ front) back word lengths all = middle_word n k front back word lengths.1 (All_back (λ i. i < n) w (all_numbers (front ++ word ∷ back)) all)

pub word_of : (n k : ℕ) (vecs : List (Vec ℕ Global)) (i : ℕ) (v : Vec ℕ Global) → i < length vecs → v ≡ get_or vecs i v → IsPartition n k (words_in vecs) → IsWordOf n k v.items
word_of n k vecs i v h is p =
    let cut = words_cut vecs i v h is in
    middle_word n k (words_in (take i vecs)) (words_in (drop (i + 1) vecs)) v.items
    (subst (λ (ws : Words). AllByRecursion (λ w. (1 ≤ length w) × (length w ≤ k)) ws) cut p.lengths)
    (subst (λ (ws : Words). AllByRecursion (λ i. i < n) (all_numbers ws)) cut p.no_other)

pub each_word : (n k : ℕ) (words : Words) → IsPartition n k words → AllByRecursion (IsWordOf n k) words
each_word n k words p = each words p.lengths p.no_other
  where
    each : (ws : Words) → AllByRecursion (λ w. (1 ≤ length w) × (length w ≤ k)) ws → AllByRecursion (λ i. i < n) (all_numbers ws) → AllByRecursion (IsWordOf n k) ws
    each [] lengths all = tt
    each (w ∷ ws) lengths all =
        (record { some = lengths.0.0; most = lengths.0.1; within = All_front (λ i. i < n) w (all_numbers ws) all }, each ws lengths.1 (All_back (λ i. i < n) w (all_numbers ws) all))

all_words : (n k : ℕ) (vecs : List (Vec ℕ Global)) → IsPartition n k (words_in vecs) → AllByRecursion (λ (v : Vec ℕ Global). IsWordOf n k v.items) vecs
all_words n k vecs p = of_items vecs (each_word n k (words_in vecs) p)
  where
    of_items : (vs : List (Vec ℕ Global)) → AllByRecursion (IsWordOf n k) (words_in vs) → AllByRecursion (λ (v : Vec ℕ Global). IsWordOf n k v.items) vs
    of_items [] h = tt
    of_items (v ∷ vs) h = (h.0, of_items vs h.1)

all_weaker : {A : Type 0} (P Q : A → Type 0) → ((x : A) → P x → Q x) → (xs : List A) → AllByRecursion P xs → AllByRecursion Q xs
all_weaker P Q f [] h = tt
all_weaker P Q f (x ∷ xs) h = (f x h.0, all_weaker P Q f xs h.1)

pub all_within : (n k : ℕ) (vecs : List (Vec ℕ Global)) → IsPartition n k (words_in vecs) → All (λ (v : Vec ℕ Global). All (λ i. i < n) v.items) vecs
all_within n k vecs p =
    All-from_recursion (λ (v : Vec ℕ Global). All (λ i. i < n) v.items) vecs
    (all_weaker (λ (v : Vec ℕ Global). IsWordOf n k v.items) (λ (v : Vec ℕ Global). All (λ i. i < n) v.items) (λ v is. All-from_recursion (λ i. i < n) v.items is.within) vecs (all_words n k vecs p))

pub all_short : (n k m : ℕ) (vecs : List (Vec ℕ Global)) → k ≤ m → IsPartition n k (words_in vecs) → All (λ (v : Vec ℕ Global). length v.items ≤ m) vecs
all_short n k m vecs h p =
    All-from_recursion (λ (v : Vec ℕ Global). length v.items ≤ m) vecs
    (all_weaker (λ (v : Vec ℕ Global). IsWordOf n k v.items) (λ (v : Vec ℕ Global). length v.items ≤ m) (λ v is. let e = is.most in omega arith) vecs (all_words n k vecs p))
