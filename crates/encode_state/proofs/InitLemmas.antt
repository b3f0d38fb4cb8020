-- The bits of a word, and words of a layout.
use Rattle.std.proofs.Common.{◌≡◌, refl, sym, ◌∙◌, ap, ap₂, subst, ℕ, zero, suc, ◌+◌, ◌*◌, ◌-◌, ◌^◌, ◌<◌, ◌≤◌, List, [], ◌∷◌, ◌++◌, map, length, Bool, true, false, cond, drop, get_or, arith}
use Rattle.std.specs.List.{AllByRecursion}
use Rattle.std.specs.Prelude.{Vec}
use Rattle.std.specs.declared.alloc.Global.{Global}
use Rattle.std.proofs.lemmas.List.{get_or-map, length-map}
use Rattle.std.proofs.Math.Nat.{pow-suc}
use Rattle.netlist_spec.specs.Covers.{number_of}
use Rattle.netlist_spec.specs.SourceRun.{Bits}
use Rattle.netlist_spec.proofs.OneValue.{All_front, All_back}
use Rattle.block_code.proofs.Words.{bits_number}
use Rattle.guard_spec.specs.Codes.{Code, bits_of, encoded}
use Rattle.guard_spec.specs.Words.{IsPartition, Words, all_numbers, bits_at}
use Rattle.encode_state.specs.Types.{words_in}
use Rattle.encode_state.proofs.ListedLemmas.{drop_less}
use Rattle.encode_state.proofs.MarkLemmas.{words_at}

pub all_at : {A : Type 0} (P : A → Type 0) (xs : List A) (i : ℕ) (d : A) → AllByRecursion P xs → i < length xs → P (get_or xs i d)
all_at P [] i d all h = absurd (omega arith)
all_at P (x ∷ xs) zero d all h = all.0
all_at P (x ∷ xs) (suc i) d all h = all_at P xs i d all.1 (omega arith)

pub word_within : (P : ℕ → Type 0) (words : Words) (i : ℕ) → AllByRecursion P (all_numbers words) → i < length words → AllByRecursion P (get_or words i [])
word_within P [] i all h = absurd (omega arith)
word_within P (w ∷ ws) zero all h = All_front P w (all_numbers ws) all
word_within P (w ∷ ws) (suc i) all h = word_within P ws i (All_back P w (all_numbers ws) all) (omega arith)

pub bit_more : (word : List ℕ) (bits : Bits) (i j n b : ℕ) → i ≡ suc j → j < length word → n ≡ number_of (bits_at (drop i word) bits) → b ≡ cond (get_or bits (get_or word j 0) false) 1 0
    → n * 2 + b ≡ number_of (bits_at (drop j word) bits)
bit_more word bits i j n b e h is bit = rw (drop_less word i j 0 e h) (omega (arith, is, bit))

one_at_most : (b : Bool) (n : ℕ) → n ≡ cond b 1 0 → n ≤ 1
one_at_most true n e = omega arith
one_at_most false n e = omega arith

pub bit_small : (c : Bool) (n b k m : ℕ) → m ≡ suc k → n < 2 ^ k → b ≡ cond c 1 0 → n * 2 + b < 2 ^ m
bit_small c n b k m e small bit =
    let one = one_at_most c b bit in
    let p = pow-suc 2 k in
    rw (e, p) (omega arith)

-- ---- a word of a layout

pub word_facts : (k latches : ℕ) (state : Words) (vecs : List (Vec ℕ Global)) (w : ℕ) (vec : Vec ℕ Global) (word : List ℕ) → IsPartition latches k state → w < length state → state ≡ words_in vecs
    → vec ≡ get_or vecs w vec → word ≡ vec.items
    → (get_or state w [] ≡ word) × (1 ≤ length word) × (length word ≤ k) × AllByRecursion (λ i. i < latches) word
word_facts k latches state vecs w vec word p inside e is items =
    let size : length state ≡ length vecs = ap length e ∙ length-map vecs (λ (v : Vec ℕ Global). v.items) in
    let same : get_or state w [] ≡ word = ap (λ ws. get_or ws w []) e ∙ (words_at vecs w vec (omega arith) is ∙ sym items) in
    let lengths = all_at (λ v. (1 ≤ length v) × (length v ≤ k)) state w [] p.lengths inside in
    let n = ap length same in
    (same, omega (arith, lengths.0, n), omega (arith, lengths.1, n), subst (λ (v : List ℕ). AllByRecursion (λ i. i < latches) v) same (word_within (λ i. i < latches) state w p.no_other inside))

pub codeword_is : (code : Code) (items word : List ℕ) (bits b : Bits) (len u result : ℕ) → word ≡ items → len ≡ length items → u ≡ number_of (bits_at items b) → bits ≡ b
    → bits_of (len + code.columns) result ≡ encoded code (bits_of len u) → bits_of (length word + code.columns) result ≡ encoded code (bits_at word bits)
codeword_is code items word bits b len u result e n is same h =
    let places : len ≡ length (bits_at items b) = n ∙ sym (length-map items (λ i. get_or b i false)) in
    let spelled : bits_of len u ≡ bits_at items b = ap₂ (λ x y. bits_of x y) places is ∙ bits_number (bits_at items b) in
    ap (λ x. bits_of (x + code.columns) result) (ap length e ∙ sym n)
    ∙ (h ∙ ap (encoded code) (spelled ∙ ap₂ (λ x y. bits_at x y) (sym e) (sym same)))

-- each number of some words has a property that all their numbers have
pub each_within : (P : ℕ → Type 0) (vecs : List (Vec ℕ Global)) (words : Words) → words ≡ words_in vecs → AllByRecursion P (all_numbers words)
    → (k : ℕ) (d : Vec ℕ Global) → k < length vecs → (j e : ℕ) → j < length (get_or vecs k d).items → P (get_or (get_or vecs k d).items j e)
each_within P vecs words is all k d inside j e within =
    let size = length-map vecs (λ (v : Vec ℕ Global). v.items) in
    let here = word_within P (words_in vecs) k (subst (λ (ws : Words). AllByRecursion P (all_numbers ws)) is all) (omega arith) in
    let same : get_or (words_in vecs) k [] ≡ (get_or vecs k d).items = get_or-map (λ (v : Vec ℕ Global). v.items) vecs k d [] inside in
    all_at P (get_or vecs k d).items j e (subst (λ (w : List ℕ). AllByRecursion P w) same here) within
