-- Tests of all places of two lists, and of all words.
use Rattle.std.proofs.Common.{◌≡◌, refl, sym, ◌∙◌, ap, subst, ℕ, zero, suc, ◌+◌, ◌<◌, ◌≤◌, List, [], ◌∷◌, length, take, get_or, Bool, true, false, ◌&&◌, ◌==◌, ◌*◌, ◌++◌, arith, add-one, eqb-true, eq-eqb}
use Rattle.std.proofs.lemmas.Bool.{false≢true}
use Rattle.std.proofs.lemmas.List.{length-map}
use Rattle.std.proofs.Math.Nat.{suc-mul}
use Rattle.std.specs.Prelude.{not, Vec, nat_le, slice_range}
use Rattle.std.specs.declared.alloc.Global.{Global}
use Rattle.guard_spec.specs.Codes.{Code, apart, encoded}
use Rattle.guard_spec.specs.Words.{Words, IsPartition, bits_at, output_word}
use Rattle.encode_state.specs.Types.{words_in}
use Rattle.encode_state.proofs.InitLemmas.{word_facts}
use Rattle.std.specs.Bool.{beq}
use Rattle.std.specs.List.{AllByRecursion, list_all, enumerate_from}
use Rattle.std.specs.Cmp.Lexicographic.{pointwise}
use Rattle.netlist_spec.specs.SourceRun.{Bits}

and_false : (t : Bool) → (t && false) ≡ false
and_false true = refl
and_false false = refl

same_bit : (b : Bool) → beq b b ≡ true
same_bit true = refl
same_bit false = refl

not_true : (t : Bool) → not t ≡ true → t ≡ false
not_true true h = absurd (false≢true h)
not_true false h = refl

pub right_of : (y z : Bits) → length y ≤ length z → ((k : ℕ) → k < length y → get_or z k false ≡ get_or y k false) → pointwise beq (take (length y) z) y ≡ true
right_of [] z h same = refl
right_of (b ∷ y) [] h same = absurd (omega (arith, h))
right_of (b ∷ y) (d ∷ z) h same =
    let first : d ≡ b = same 0 (omega arith) in
    let here : beq d b ≡ true = ap (λ (x : Bool). beq x b) first ∙ same_bit b in
    rw here (right_of y z (omega (arith, h)) (λ k within. same (suc k) (omega (arith, within))))

pub wrong_at : (y z : Bits) (k : ℕ) → k < length y → length y ≤ length z → not (beq (get_or z k false) (get_or y k false)) ≡ true → pointwise beq (take (length y) z) y ≡ false
wrong_at [] z k within h differ = absurd (omega (arith, within))
wrong_at (b ∷ y) [] k within h differ = absurd (omega (arith, h))
wrong_at (b ∷ y) (d ∷ z) zero within h differ = rw (not_true (beq d b) differ) refl
wrong_at (b ∷ y) (d ∷ z) (suc k) within h differ = rw (wrong_at y z k (omega (arith, within)) (omega (arith, h)) differ) (and_false (beq d b))

pub all_words : (P : ℕ × List ℕ → Bool) (ws : List (List ℕ)) (n : ℕ) → ((k m : ℕ) → m ≡ n + k → k < length ws → P (m, get_or ws k []) ≡ true) → list_all P (enumerate_from n ws) ≡ true
all_words P [] n each = refl
all_words P (w ∷ ws) n each =
    rw (each 0 n (omega arith) (omega arith)) (all_words P ws (n + 1) (λ k m e within. each (suc k) m (omega (arith, e)) (omega (arith, within))))

pub not_all_words : (P : ℕ × List ℕ → Bool) (ws : List (List ℕ)) (n k m : ℕ) → m ≡ n + k → k < length ws → P (m, get_or ws k []) ≡ false → list_all P (enumerate_from n ws) ≡ false
not_all_words P [] n k m e within h = absurd (omega (arith, within))
not_all_words P (w ∷ ws) n zero m e within h =
    let same : m ≡ n = omega (arith, e) in
    rw (subst (λ (x : ℕ). P (x, w) ≡ false) same h) refl
not_all_words P (w ∷ ws) n (suc k) m e within h = rw (not_all_words P ws (n + 1) k m (omega (arith, e)) (omega (arith, within)) h) (and_false (P (n, w)))

-- ---- the words of a layout

pub word_at : (k p : ℕ) (output : Words) (vecs items : List (Vec ℕ Global)) (i : ℕ) (vec : Vec ℕ Global) (word : List ℕ) → IsPartition p k output → output ≡ words_in vecs → items ≡ vecs → i < length items → vec ≡ get_or items i vec → word ≡ vec.items
    → (get_or output i [] ≡ word) × (1 ≤ length word) × (length word ≤ k) × AllByRecursion (λ i. i < p) word
word_at k p output vecs items i vec word part is same within at spelled =
    let here : vec ≡ get_or vecs i vec = at ∙ ap (λ (xs : List (Vec ℕ Global)). get_or xs i vec) same in
    let long : length items ≡ length output = ap length same ∙ (sym (length-map vecs (λ (v : Vec ℕ Global). v.items)) ∙ ap length (sym is)) in
    word_facts k p output vecs i vec word part (omega (arith, within, long)) is here spelled

pub count_words : (output : Words) (vecs items : List (Vec ℕ Global)) → output ≡ words_in vecs → items ≡ vecs → length items ≡ length output
count_words output vecs items is same = ap length same ∙ (sym (length-map vecs (λ (v : Vec ℕ Global). v.items)) ∙ ap length (sym is))

-- the test of one word
pub near_here : (code : Code) (p i first r t : ℕ) (z y : Bits) (listed word : List ℕ) (b : Bool) → first ≡ p + i * code.columns → r ≡ code.columns → listed ≡ word
    → b ≡ nat_le (apart (bits_at word z ++ slice_range z first (first + r)) (encoded code (bits_at word y))) t
    → nat_le (apart (output_word code p z (i, listed)) (encoded code (bits_at listed y))) t ≡ b
near_here code p i first r t z y listed word b at columns is e =
    (λ j. nat_le (apart (bits_at (is j) z ++ slice_range z (sym at j) (sym at j + sym columns j)) (encoded code (bits_at (is j) y))) t) ∙ sym e

pub below_more : (Q : ℕ → Type 0) (i : ℕ) → ((k : ℕ) → k < i → Q k) → Q i → (k : ℕ) → k < i + 1 → Q k
below_more Q i before here k within = by (k == i) refl
  where
    by : (b : Bool) → (k == i) ≡ b → Q k
    by true e = subst Q (sym (eqb-true k i e)) here
    by false e = before k (let other : k ≡ i → ⊥ = λ h. absurd (false≢true (sym e ∙ eq-eqb k i h)) in omega (arith, within, other))

pub widen : (p n : ℕ) (xs : List ℕ) → p ≤ n → AllByRecursion (λ i. i < p) xs → AllByRecursion (λ i. i < n) xs
widen p n [] h all = tt
widen p n (x ∷ xs) h all = (omega (arith, h, all.0), widen p n xs h all.1)

pub next_place : (first r p i n : ℕ) → first ≡ p + i * n → r ≡ n → first + r ≡ p + (i + 1) * n
next_place first r p i n e f = rw (add-one, suc-mul) (omega (arith, e, f))

pub same_bits : (y z : Bits) → pointwise beq y z ≡ true → y ≡ z
same_bits [] [] h = refl
same_bits [] (b ∷ z) h = absurd (false≢true h)
same_bits (b ∷ y) [] h = absurd (false≢true h)
same_bits (b ∷ y) (d ∷ z) h = grind (arith, same_bits y z)
