-- Laws of linear codes: how far codewords are apart, and what that tells of other words.
use Rattle.std.proofs.Common.{◌≡◌, ◌≢◌, refl, sym, ◌∙◌, ap, ap₂, subst, ℕ, zero, suc, ◌+◌, ◌-◌, ◌*◌, ◌<◌, ◌≤◌, List, [], ◌∷◌, ◌++◌, length, take, drop, Bool, true, false, cond, ◌⊎◌, inl, inr, arith, length-append, length-drop, length-take-le, take-append-drop, zero-add, eq-zero-or-pos}
use Rattle.std.proofs.lemmas.List.{length-replicate}
use Rattle.std.proofs.Math.Seq.{take-append_seam, drop-append_seam}
use Rattle.std.proofs.lemmas.List.Recursion.{is_count_by}
use Rattle.std.specs.List.{AllByRecursion}
use Rattle.netlist_spec.specs.Covers.{differ}
use Rattle.netlist_spec.specs.SourceRun.{Bits}
use Rattle.guard_spec.specs.Codes.{Code, data_places, IsCode, zeros, sum_of, checks_by, checks_of, encoded, weight, apart, IsDistance, IsCodeword, Decodes, syndrome_of}

differ_sym : (x y : Bool) → differ x y ≡ differ y x
differ_sym true true = refl
differ_sym true false = refl
differ_sym false true = refl
differ_sym false false = refl

pub same_bits : (x y : Bool) → differ x y ≡ false → x ≡ y
same_bits true true h = refl
same_bits true false h = cc h
same_bits false true h = cc h
same_bits false false h = refl

pub differ_self : (x : Bool) → differ x x ≡ false
differ_self true = refl
differ_self false = refl

pub differ_swap : (a b c d : Bool) → differ (differ a b) (differ c d) ≡ differ (differ a c) (differ b d)
differ_swap true true true true = refl
differ_swap true true true false = refl
differ_swap true true false true = refl
differ_swap true true false false = refl
differ_swap true false true true = refl
differ_swap true false true false = refl
differ_swap true false false true = refl
differ_swap true false false false = refl
differ_swap false true true true = refl
differ_swap false true true false = refl
differ_swap false true false true = refl
differ_swap false true false false = refl
differ_swap false false true true = refl
differ_swap false false true false = refl
differ_swap false false false true = refl
differ_swap false false false false = refl

-- The distance of words.

pub apart_sym : (a b : Bits) → apart a b ≡ apart b a
apart_sym [] [] = refl
apart_sym [] (y ∷ ys) = refl
apart_sym (x ∷ xs) [] = refl
apart_sym (x ∷ xs) (y ∷ ys) = ap₂ (λ (b : Bool) (n : ℕ). cond b 1 0 + n) (differ_sym x y) (apart_sym xs ys)

pub no_place : (b : Bool) (n : ℕ) → cond b 1 0 + n ≡ 0 → (b ≡ false) × (n ≡ 0)
no_place true n h = absurd (omega arith)
no_place false n h = (refl, omega arith)

pub apart_zero : (a b : Bits) → apart a b ≡ 0 → a ≡ b
apart_zero [] [] h = refl
apart_zero [] (y ∷ ys) h = cc h
apart_zero (x ∷ xs) [] h = cc h
apart_zero (x ∷ xs) (y ∷ ys) h =
    let parts = no_place (differ x y) (apart xs ys) h in
    ap₂ (λ (b : Bool) (bs : Bits). b ∷ bs) (same_bits x y parts.0) (apart_zero xs ys parts.1)

pub apart_same : (a : Bits) → apart a a ≡ 0
apart_same [] = refl
apart_same (x ∷ xs) = ap₂ (λ (b : Bool) (n : ℕ). cond b 1 0 + n) (differ_self x) (apart_same xs)

one_step : (x y z : Bool) (a b c : ℕ) → a ≤ b + c → cond (differ x z) 1 0 + a ≤ (cond (differ x y) 1 0 + b) + (cond (differ y z) 1 0 + c)
one_step true true true a b c h = omega arith
one_step true true false a b c h = omega arith
one_step true false true a b c h = omega arith
one_step true false false a b c h = omega arith
one_step false true true a b c h = omega arith
one_step false true false a b c h = omega arith
one_step false false true a b c h = omega arith
one_step false false false a b c h = omega arith

length_apart : (a b : Bits) → length b ≤ length a + apart a b
length_apart [] b = omega arith
length_apart (x ∷ xs) [] = omega arith
length_apart (x ∷ xs) (y ∷ ys) = let h : length ys ≤ length xs + apart xs ys = length_apart xs ys in omega arith

apart_lengths : (a b : Bits) → apart a b ≤ length a + length b
apart_lengths [] b = omega arith
apart_lengths (x ∷ xs) [] = omega arith
apart_lengths (x ∷ xs) (y ∷ ys) = at_most (differ x y) _ _ _ (apart_lengths xs ys)
  where
    at_most : (b : Bool) (n k j : ℕ) → n ≤ k + j → cond b 1 0 + n ≤ suc k + suc j
    at_most true n k j h = omega arith
    at_most false n k j h = omega arith

pub apart_triangle : (a b c : Bits) → apart a c ≤ apart a b + apart b c
apart_triangle [] b c = length_apart b c
apart_triangle (x ∷ xs) b [] = rw (apart_sym (x ∷ xs) b, apart_sym b []) (let h = length_apart b (x ∷ xs) in omega arith)
apart_triangle (x ∷ xs) [] (z ∷ zs) = apart_lengths (x ∷ xs) (z ∷ zs)
apart_triangle (x ∷ xs) (y ∷ ys) (z ∷ zs) = one_step x y z _ _ _ (apart_triangle xs ys zs)

pub same_or_not : (a b : Bits) → (a ≡ b) ⊎ (a ≢ b)
same_or_not a b = by_apart (eq-zero-or-pos (apart a b))
  where
    by_apart : (apart a b ≡ 0) ⊎ (0 < apart a b) → (a ≡ b) ⊎ (a ≢ b)
    by_apart (inl e) = inl (apart_zero a b e)
    by_apart (inr h) = inr (λ e. let k : apart a b ≡ 0 = subst (λ w. apart a w ≡ 0) e (apart_same a) in absurd (omega arith))

pub apart_append : (a b c d : Bits) → length a ≡ length c → apart (a ++ b) (c ++ d) ≡ apart a c + apart b d
apart_append [] b [] d h = sym (zero-add _)
apart_append [] b (y ∷ ys) d h = absurd (omega arith)
apart_append (x ∷ xs) b [] d h = absurd (omega arith)
apart_append (x ∷ xs) b (y ∷ ys) d h = let e = apart_append xs b ys d (omega arith) in omega arith

-- Numbers of ones, and sums.

abbrev pub ones : Bits → ℕ
ones [] = 0
ones (b ∷ bs) = cond b 1 0 + ones bs

ones_step : (b : Bool) (bs : Bits) → ones (b ∷ bs) ≡ cond b (1 + ones bs) (ones bs)
ones_step true bs = refl
ones_step false bs = omega arith

pub weight_ones : (bs : Bits) → weight bs ≡ ones bs
weight_ones bs = sym (is_count_by ones (λ b. b) refl ones_step bs)

pub ones_append : (a b : Bits) → ones (a ++ b) ≡ ones a + ones b
ones_append [] b = omega arith
ones_append (x ∷ xs) b = let e = ones_append xs b in omega arith

pub ones_zeros : (n : ℕ) → ones (zeros n) ≡ 0
ones_zeros zero = refl
ones_zeros (suc n) = let e = ones_zeros n in omega arith

pub length_sum : (a b : Bits) → length a ≡ length b → length (sum_of a b) ≡ length a
length_sum [] b h = refl
length_sum (x ∷ xs) [] h = absurd (omega arith)
length_sum (x ∷ xs) (y ∷ ys) h = ap suc (length_sum xs ys (omega arith))

pub ones_sum : (a b : Bits) → length a ≡ length b → ones (sum_of a b) ≡ apart a b
ones_sum [] [] h = refl
ones_sum [] (y ∷ ys) h = absurd (omega arith)
ones_sum (x ∷ xs) [] h = absurd (omega arith)
ones_sum (x ∷ xs) (y ∷ ys) h = ap (λ (n : ℕ). cond (differ x y) 1 0 + n) (ones_sum xs ys (omega arith))

sum_append : (a b c d : Bits) → length a ≡ length c → sum_of (a ++ b) (c ++ d) ≡ sum_of a c ++ sum_of b d
sum_append [] b [] d h = refl
sum_append [] b (y ∷ ys) d h = absurd (omega arith)
sum_append (x ∷ xs) b [] d h = absurd (omega arith)
sum_append (x ∷ xs) b (y ∷ ys) d h = ap (λ (bs : Bits). differ x y ∷ bs) (sum_append xs b ys d (omega arith))

pub sum_swap : (a b c d : Bits) → sum_of (sum_of a b) (sum_of c d) ≡ sum_of (sum_of a c) (sum_of b d)
sum_swap [] b [] d = refl
sum_swap [] b (z ∷ zs) d = refl
sum_swap (x ∷ xs) [] [] d = refl
sum_swap (x ∷ xs) [] (z ∷ zs) d = refl
sum_swap (x ∷ xs) (y ∷ ys) [] d = refl
sum_swap (x ∷ xs) (y ∷ ys) (z ∷ zs) [] = refl
sum_swap (x ∷ xs) (y ∷ ys) (z ∷ zs) (k ∷ ks) = ap₂ (λ (b : Bool) (bs : Bits). b ∷ bs) (differ_swap x y z k) (sum_swap xs ys zs ks)

pub sum_self : (a : Bits) (n : ℕ) → length a ≡ n → zeros n ≡ sum_of a a
sum_self [] zero h = refl
sum_self [] (suc n) h = absurd (omega arith)
sum_self (x ∷ xs) zero h = absurd (omega arith)
sum_self (x ∷ xs) (suc n) h = ap₂ (λ (b : Bool) (bs : Bits). b ∷ bs) (sym (differ_self x)) (sum_self xs n (omega arith))

pub sum_zeros_right : (a : Bits) (n : ℕ) → length a ≡ n → a ≡ sum_of a (zeros n)
sum_zeros_right [] n h = refl
sum_zeros_right (x ∷ xs) zero h = absurd (omega arith)
sum_zeros_right (x ∷ xs) (suc n) h = ap₂ (λ (b : Bool) (bs : Bits). b ∷ bs) (plain x) (sum_zeros_right xs n (omega arith))
  where
    plain : (b : Bool) → b ≡ differ b false
    plain true = refl
    plain false = refl

pub sum_zeros_left : (a : Bits) (n : ℕ) → length a ≡ n → a ≡ sum_of (zeros n) a
sum_zeros_left [] zero h = refl
sum_zeros_left [] (suc n) h = absurd (omega arith)
sum_zeros_left (x ∷ xs) zero h = absurd (omega arith)
sum_zeros_left (x ∷ xs) (suc n) h = ap (λ (bs : Bits). x ∷ bs) (sum_zeros_left xs n (omega arith))

differ_assoc : (a b c : Bool) → differ a (differ b c) ≡ differ (differ a b) c
differ_assoc true true true = refl
differ_assoc true true false = refl
differ_assoc true false true = refl
differ_assoc true false false = refl
differ_assoc false true true = refl
differ_assoc false true false = refl
differ_assoc false false true = refl
differ_assoc false false false = refl

sum_assoc : (a b c : Bits) → sum_of a (sum_of b c) ≡ sum_of (sum_of a b) c
sum_assoc [] b c = refl
sum_assoc (x ∷ xs) [] c = refl
sum_assoc (x ∷ xs) (y ∷ ys) [] = refl
sum_assoc (x ∷ xs) (y ∷ ys) (z ∷ zs) = ap₂ (λ (b : Bool) (bs : Bits). b ∷ bs) (differ_assoc x y z) (sum_assoc xs ys zs)

apart_ones : (a b : Bits) → length a ≡ length b → apart a b ≤ ones a + ones b
apart_ones [] b h = rw (← h) (omega arith)
apart_ones (x ∷ xs) [] h = absurd (omega arith)
apart_ones (x ∷ xs) (y ∷ ys) h = one_place x y _ _ _ (apart_ones xs ys (omega arith))
  where
    one_place : (a b : Bool) (n k j : ℕ) → n ≤ k + j → cond (differ a b) 1 0 + n ≤ (cond a 1 0 + k) + (cond b 1 0 + j)
    one_place true true n k j e = omega arith
    one_place true false n k j e = omega arith
    one_place false true n k j e = omega arith
    one_place false false n k j e = omega arith

pub no_ones : (a : Bits) (n : ℕ) → length a ≡ n → ones a ≡ 0 → a ≡ zeros n
no_ones [] zero h e = refl
no_ones [] (suc n) h e = absurd (omega arith)
no_ones (x ∷ xs) zero h e = absurd (omega arith)
no_ones (x ∷ xs) (suc n) h e =
    let parts = no_place x (ones xs) e in
    ap₂ (λ (b : Bool) (bs : Bits). b ∷ bs) parts.0 (no_ones xs n (omega arith) parts.1)

pub sum_take : (m : ℕ) (a b : Bits) → take m (sum_of a b) ≡ sum_of (take m a) (take m b)
sum_take zero a b = refl
sum_take (suc m) [] b = refl
sum_take (suc m) (x ∷ xs) [] = refl
sum_take (suc m) (x ∷ xs) (y ∷ ys) = ap (λ (bs : Bits). differ x y ∷ bs) (sum_take m xs ys)

pub sum_drop : (m : ℕ) (a b : Bits) → drop m (sum_of a b) ≡ sum_of (drop m a) (drop m b)
sum_drop zero a b = refl
sum_drop (suc m) [] b = refl
sum_drop (suc m) (x ∷ xs) [] = no_sum (drop m xs)
  where
    no_sum : (c : Bits) → [] ≡ sum_of c []
    no_sum [] = refl
    no_sum (z ∷ zs) = refl
sum_drop (suc m) (x ∷ xs) (y ∷ ys) = sum_drop m xs ys

-- Check bits are linear in the data.

pub chosen_sum : (r : ℕ) (row : Bits) → length row ≡ r → (b c : Bool) → cond (differ b c) row (zeros r) ≡ sum_of (cond b row (zeros r)) (cond c row (zeros r))
chosen_sum r row h true true = sum_self row r h
chosen_sum r row h true false = sum_zeros_right row r h
chosen_sum r row h false true = sum_zeros_left row r h
chosen_sum r row h false false = sum_zeros_left (zeros r) r (length-replicate r false)

pub checks_sum : (r : ℕ) (rows : List Bits) → AllByRecursion (λ row. length row ≡ r) rows → (u w : Bits) → length u ≡ length w → checks_by r rows (sum_of u w) ≡ sum_of (checks_by r rows u) (checks_by r rows w)
checks_sum r rows all [] [] h = sum_zeros_left (zeros r) r (length-replicate r false)
checks_sum r rows all [] (c ∷ w) h = absurd (omega arith)
checks_sum r rows all (b ∷ u) [] h = absurd (omega arith)
checks_sum r [] all (b ∷ u) (c ∷ w) h = sum_zeros_left (zeros r) r (length-replicate r false)
checks_sum r (row ∷ rows) all (b ∷ u) (c ∷ w) h =
    ap₂ (λ (xs ys : Bits). sum_of xs ys) (chosen_sum r row all.0 b c) (checks_sum r rows all.1 u w (omega arith))
    ∙ sum_swap (cond b row (zeros r)) (cond c row (zeros r)) (checks_by r rows u) (checks_by r rows w)

chosen_length : (r : ℕ) (row : Bits) → length row ≡ r → (b : Bool) → length (cond b row (zeros r)) ≡ r
chosen_length r row h true = h
chosen_length r row h false = length-replicate r false

pub length_checks : (r : ℕ) (rows : List Bits) → AllByRecursion (λ row. length row ≡ r) rows → (u : Bits) → length (checks_by r rows u) ≡ r
length_checks r rows all [] = length-replicate r false
length_checks r [] all (b ∷ u) = length-replicate r false
length_checks r (row ∷ rows) all (b ∷ u) =
    let e = chosen_length r row all.0 b in
    length_sum _ _ (e ∙ sym (length_checks r rows all.1 u)) ∙ e

-- One row and one place more add that row, or nothing.
pub checks_push : (r : ℕ) (rows : List Bits) (row : Bits) → length row ≡ r → (u : Bits) → length rows ≡ length u → (b : Bool) → checks_by r (rows ++ row ∷ []) (u ++ b ∷ []) ≡ sum_of (checks_by r rows u) (cond b row (zeros r))
checks_push r [] row h [] same b =
    let e = chosen_length r row h b in
    sym (sum_zeros_right _ r e) ∙ sum_zeros_left _ r e
checks_push r [] row h (c ∷ u) same b = absurd (omega arith)
checks_push r (first ∷ rows) row h [] same b = absurd (omega arith)
checks_push r (first ∷ rows) row h (c ∷ u) same b =
    ap (λ (bs : Bits). sum_of (cond c first (zeros r)) bs) (checks_push r rows row h u (omega arith) b)
    ∙ sum_assoc (cond c first (zeros r)) (checks_by r rows u) (cond b row (zeros r))

-- Rows behind those of the data's places are not used.
pub checks_take : (r : ℕ) (rows : List Bits) (u : Bits) → checks_by r (take (length u) rows) u ≡ checks_by r rows u
checks_take r rows [] = refl
checks_take r [] (b ∷ u) = refl
checks_take r (row ∷ rows) (b ∷ u) = ap (λ (bs : Bits). sum_of (cond b row (zeros r)) bs) (checks_take r rows u)

checks_none : (r : ℕ) (rows : List Bits) (n : ℕ) → checks_by r rows (zeros n) ≡ zeros r
checks_none r rows zero = refl
checks_none r [] (suc n) = refl
checks_none r (row ∷ rows) (suc n) = ap (λ (bs : Bits). sum_of (zeros r) bs) (checks_none r rows n) ∙ sym (sum_zeros_left (zeros r) r (length-replicate r false))

-- zeros behind some data change no check bit
checks_padded : (r : ℕ) (rows : List Bits) (u : Bits) (n : ℕ) → checks_by r rows (u ++ zeros n) ≡ checks_by r rows u
checks_padded r rows [] n = checks_none r rows n
checks_padded r [] (b ∷ u) n = refl
checks_padded r (row ∷ rows) (b ∷ u) n = ap (λ (bs : Bits). sum_of (cond b row (zeros r)) bs) (checks_padded r rows u n)

-- the least weight of a codeword is one number
pub one_distance : (code : Code) (d e : ℕ) → IsDistance code d → IsDistance code e → d ≡ e
one_distance code d e a b =
    let at_a = b.bound a.least a.places a.nonzero in
    let at_b = a.bound b.least b.places b.nonzero in
    let reached_a = a.reached in
    let reached_b = b.reached in
    omega arith

module _ (code : Code) (is_code : IsCode code) where
  pub length_encoded : (u : Bits) → length (encoded code u) ≡ length u + code.columns
  length_encoded u = length-append u (checks_of code u) ∙ ap (λ (n : ℕ). length u + n) (length_checks code.columns code.rows is_code.full u)

  encoded_sum : (u w : Bits) → length u ≡ length w → encoded code (sum_of u w) ≡ sum_of (encoded code u) (encoded code w)
  encoded_sum u w h =
      ap (λ (bs : Bits). sum_of u w ++ bs) (checks_sum code.columns code.rows is_code.full u w h)
      ∙ sym (sum_append u (checks_of code u) w (checks_of code w) h)

  padded_ones : (u : Bits) (n : ℕ) → weight (encoded code (u ++ zeros n)) ≡ ones (encoded code u)
  padded_ones u n =
      let e = ones_append (u ++ zeros n) (checks_of code (u ++ zeros n)) in
      let f = ones_append u (zeros n) in
      let g = ap ones (checks_padded code.columns code.rows u n) in
      let h = ones_append u (checks_of code u) in
      let k = ones_zeros n in
      weight_ones _ ∙ (e ∙ (ap₂ (λ (a b : ℕ). a + b) f g ∙ (ap (λ (a : ℕ). (ones u + a) + ones (checks_of code u)) k ∙ (ap (λ (a : ℕ). a + ones (checks_of code u)) add_none ∙ sym h))))
    where
      add_none : ones u + 0 ≡ ones u
      add_none = omega arith

  -- Syndromes are linear too, and zero exactly on codewords.

  pub length_syndrome : (m : ℕ) (z : Bits) → length z ≡ m + code.columns → length (syndrome_of code m z) ≡ code.columns
  length_syndrome m z h =
      let front = length_checks code.columns code.rows is_code.full (take m z) in
      let back = length-drop m z in
      length_sum _ _ (front ∙ omega arith) ∙ front

  syndrome_sum : (m : ℕ) (e f : Bits) → length e ≡ m + code.columns → length f ≡ m + code.columns → syndrome_of code m (sum_of e f) ≡ sum_of (syndrome_of code m e) (syndrome_of code m f)
  syndrome_sum m e f he hf =
      let front = ap (checks_of code) (sum_take m e f) ∙ checks_sum code.columns code.rows is_code.full (take m e) (take m f) (length-take-le m e (omega arith) ∙ sym (length-take-le m f (omega arith))) in
      ap₂ (λ (a b : Bits). sum_of a b) front (sum_drop m e f)
      ∙ sum_swap (checks_of code (take m e)) (checks_of code (take m f)) (drop m e) (drop m f)

  pub codeword_from_zero : (m : ℕ) (z : Bits) → length z ≡ m + code.columns → weight (syndrome_of code m z) ≡ 0 → IsCodeword code m z
  codeword_from_zero m z h e =
      let front = length_checks code.columns code.rows is_code.full (take m z) in
      let back : length (drop m z) ≡ code.columns = length-drop m z ∙ omega arith in
      let near = sym (ones_sum _ _ (front ∙ sym back)) ∙ (sym (weight_ones (syndrome_of code m z)) ∙ e) in
      let same = apart_zero (checks_of code (take m z)) (drop m z) near in
      (take m z, length-take-le m z (omega arith), sym (take-append-drop m z) ∙ ap (λ (bs : Bits). take m z ++ bs) (sym same))

  pub zero_from_codeword : (m : ℕ) (z : Bits) → IsCodeword code m z → weight (syndrome_of code m z) ≡ 0
  zero_from_codeword m z (u, hu, is) =
      let checks = checks_of code u in
      let front : take m z ≡ u = ap₂ (λ (n : ℕ) (bs : Bits). take n bs) (sym hu) is ∙ take-append_seam u checks in
      let back : drop m z ≡ checks = ap₂ (λ (n : ℕ) (bs : Bits). drop n bs) (sym hu) is ∙ drop-append_seam u checks in
      weight_ones (syndrome_of code m z)
      ∙ (ap₂ (λ (a b : Bits). ones (sum_of (checks_of code a) b)) front back
      ∙ (ones_sum checks checks refl ∙ apart_same checks))

  zero_codeword : (m : ℕ) (u : Bits) → length u ≡ m → weight u ≡ 0 → ones (encoded code u) ≡ 0
  zero_codeword m u h e =
      let none = sym (weight_ones u) ∙ e in
      let checks = ap ones (ap (checks_of code) (no_ones u m h none) ∙ checks_none code.columns code.rows m) ∙ ones_zeros code.columns in
      ones_append u (checks_of code u) ∙ (ap₂ (λ (a b : ℕ). a + b) none checks ∙ omega arith)

  module _ (d : ℕ) (is_distance : IsDistance code d) where
    -- A word of fewer places that is not zero has no lesser codeword.
    pub short_weight : (u : Bits) → length u ≤ data_places code → 0 < weight u → d ≤ weight (encoded code u)
    short_weight u fits some =
        let rest = data_places code - length u in
        let long : length (u ++ zeros rest) ≡ data_places code = length-append u (zeros rest) ∙ (ap (λ (n : ℕ). length u + n) (length-replicate rest false) ∙ omega arith) in
        let ones_of = weight_ones (u ++ zeros rest) ∙ (ones_append u (zeros rest) ∙ (ap (λ (n : ℕ). ones u + n) (ones_zeros rest) ∙ ap (λ (n : ℕ). n + 0) (sym (weight_ones u)))) in
        let bound = is_distance.bound (u ++ zeros rest) long (omega arith) in
        subst (λ (n : ℕ). d ≤ n) (padded_ones u rest ∙ sym (weight_ones (encoded code u))) bound

    -- Nor has the code of the first rows alone.
    pub first_rows : (m e : ℕ) → m ≤ data_places code → IsDistance (record { columns = code.columns; rows = take m code.rows }) e → d ≤ e
    first_rows m e fits short =
        let u = short.least in
        let places : length u ≡ m = short.places ∙ length-take-le m code.rows fits in
        let same = ap (λ (n : ℕ). checks_by code.columns (take n code.rows) u) (sym places) ∙ checks_take code.columns code.rows u in
        subst (λ (n : ℕ). d ≤ n) (ap (λ (bs : Bits). weight (u ++ bs)) (sym same) ∙ short.reached) (short_weight u (omega arith) short.nonzero)

    -- Codewords of different data are at least d places apart, also where a word uses the first rows alone.
    pub words_apart : (m : ℕ) → m ≤ data_places code → (u w : Bits) → length u ≡ m → length w ≡ m → u ≢ w → d ≤ apart (encoded code u) (encoded code w)
    words_apart m fits u w hu hw other =
        let same : length u ≡ length w = hu ∙ sym hw in
        let rest = data_places code - m in
        let padded = sum_of u w ++ zeros rest in
        let long : length padded ≡ data_places code =
        length-append (sum_of u w) (zeros rest) ∙ (ap₂ (λ (a b : ℕ). a + b) (length_sum u w same ∙ hu) (length-replicate rest false) ∙ whole) in
        let some : 0 < weight padded = subst (λ (n : ℕ). 0 < n) (sym (weight_ones padded ∙ (ones_append (sum_of u w) (zeros rest)))) (some_place (ones_sum u w same) (ones_zeros rest)) in
        let bound = is_distance.bound padded long some in
        subst (λ (n : ℕ). d ≤ n) (padded_ones (sum_of u w) rest ∙ (ap ones (encoded_sum u w same) ∙ ones_sum (encoded code u) (encoded code w) (length_encoded u ∙ (ap (λ (n : ℕ). n + code.columns) same ∙ sym (length_encoded w))))) bound
      where
        whole : m + (data_places code - m) ≡ data_places code
        whole = omega arith

        not_none : apart u w ≡ 0 → ⊥
        not_none e = other (apart_zero u w e)

        some_place : ones (sum_of u w) ≡ apart u w → ones (zeros (data_places code - m)) ≡ 0 → 0 < ones (sum_of u w) + ones (zeros (data_places code - m))
        some_place e f = omega (arith, not_none)

    -- A word that is 1 to d - 1 places apart from a codeword is no codeword.
    pub no_codeword_near : (m : ℕ) → m ≤ data_places code → (z u : Bits) → length u ≡ m → 0 < apart z (encoded code u) → apart z (encoded code u) < d → IsCodeword code m z → ⊥
    no_codeword_near m fits z u hu some few (w, hw, is) = by_word (same_or_not u w)
      where
        by_word : (u ≡ w) ⊎ (u ≢ w) → ⊥
        by_word (inl e) =
            let k : apart z (encoded code u) ≡ 0 = subst (λ (b : Bits). apart z (encoded code b) ≡ 0) (sym e) (subst (λ (b : Bits). apart b (encoded code w) ≡ 0) (sym is) (apart_same (encoded code w))) in
            omega arith
        by_word (inr n) =
            let far = words_apart m fits u w hu hw n in
            let k : apart z (encoded code u) ≡ apart (encoded code u) (encoded code w) = ap (λ (b : Bits). apart b (encoded code u)) is ∙ apart_sym (encoded code w) (encoded code u) in
            omega arith

    -- A word at most t places apart from a codeword decodes to its data, where d is above 2t.
    pub decodes_near : (t : ℕ) → 2 * t < d → (m : ℕ) → m ≤ data_places code → (z u : Bits) → length u ≡ m → apart z (encoded code u) ≤ t → Decodes code t z u
    decodes_near t wide m fits z u hu near = record {
      near = near;
      others = λ w hw other.
          let far = words_apart m fits u w hu (hw ∙ hu) (λ e. other (sym e)) in
          let way = apart_triangle (encoded code u) z (encoded code w) in
          let back = apart_sym (encoded code u) z in
          omega arith;
    }

    -- Two codewords at most t places apart from one word are one.
    pub one_near : (t : ℕ) → 2 * t < d → (m : ℕ) → m ≤ data_places code → (z a b : Bits) → IsCodeword code m a → IsCodeword code m b → apart z a ≤ t → apart z b ≤ t → a ≡ b
    one_near t wide m fits z a b (u, hu, is_u) (w, hw, is_w) near_a near_b = by_word (same_or_not u w)
      where
        by_word : (u ≡ w) ⊎ (u ≢ w) → a ≡ b
        by_word (inl e) = is_u ∙ (ap (encoded code) e ∙ sym is_w)
        by_word (inr n) =
            let far = words_apart m fits u w hu hw n in
            let way = apart_triangle a z b in
            let back = apart_sym a z in
            let same = ap₂ apart is_u is_w in
            absurd (omega arith)

    -- Errors of at most t places with one syndrome are one.
    pub one_error : (t : ℕ) → 2 * t < d → (m : ℕ) → m ≤ data_places code → (e f : Bits) → length e ≡ m + code.columns → length f ≡ m + code.columns → weight e ≤ t → weight f ≤ t → syndrome_of code m e ≡ syndrome_of code m f → e ≡ f
    one_error t wide m fits e f he hf few_e few_f same = by_codeword (codeword_from_zero m (sum_of e f) long none)
      where
        both : length e ≡ length f
        both = he ∙ sym hf

        long : length (sum_of e f) ≡ m + code.columns
        long = length_sum e f both ∙ he

        none : weight (syndrome_of code m (sum_of e f)) ≡ 0
        none =
            weight_ones _
            ∙ (ap ones (syndrome_sum m e f he hf ∙ ap (λ (bs : Bits). sum_of bs (syndrome_of code m f)) same)
            ∙ (ones_sum (syndrome_of code m f) (syndrome_of code m f) refl ∙ apart_same (syndrome_of code m f)))

        by_codeword : IsCodeword code m (sum_of e f) → e ≡ f
        by_codeword (u, hu, is) = by_weight (eq-zero-or-pos (weight u))
          where
            places : ones (encoded code u) ≡ apart e f
            places = ap ones (sym is) ∙ ones_sum e f both

            by_weight : (weight u ≡ 0) ⊎ (0 < weight u) → e ≡ f
            by_weight (inl zero_weight) = apart_zero e f (sym places ∙ zero_codeword m u hu zero_weight)
            by_weight (inr some) =
                let least = short_weight u (omega arith) some in
                let counted = weight_ones (encoded code u) in
                let most = apart_ones e f both in
                let count_e = weight_ones e in
                let count_f = weight_ones f in
                let count = places in
                absurd (omega arith)
