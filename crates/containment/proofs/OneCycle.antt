-- One cycle of a guard under few faults.
use Rattle.std.proofs.Common.{◌≡◌, ◌≢◌, refl, sym, ◌∙◌, ap, ap₂, subst, ℕ, zero, suc, ◌+◌, ◌-◌, ◌*◌, ◌<◌, ◌≤◌, List, [], ◌∷◌, ◌++◌, length, map, take, drop, get_or, slice_range, slice_get, Bool, true, false, cond, ◌||◌, ◌==◌, ◌⊎◌, inl, inr, ◌↔◌, Option, Some, None, arith, Contains, IsTrue, length-append, length-drop, length-take, take-append-drop, drop-drop, get_or-drop, get_or-append-add, eqb-true, add_assoc, eq-zero-or-pos, find, option_map, unwrap_or}
use Rattle.std.proofs.lemmas.List.{length-map}
use Rattle.std.specs.List.{AllByRecursion, AllZip}
use Rattle.netlist_spec.specs.SourceRun.{Bits}
use Rattle.netlist_spec.specs.Gates.{ForcedNets, shown_net}
use Rattle.guard_spec.specs.Codes.{Code, data_places, IsCode, encoded, apart, IsDistance, IsCodeword}
use Rattle.guard_spec.specs.Words.{Words, bits_at, codewords, output_word}
use Rattle.guard_spec.specs.Count.{StateWordsAre}
use Rattle.block_code.proofs.Coding.{apart_zero, apart_append, same_or_not, length_encoded, no_codeword_near}
use Rattle.guard_spec.specs.Rails.{SomeStateWord, SomeOutputWord, IsNoCodeword}

-- Lists in step.

pub zip_at : {A B : Type 0} (R : A → B → Type 0) (xs : List A) (ys : List B) (i : ℕ) (a : A) (b : B) → AllZip R xs ys → i < length xs → R (get_or xs i a) (get_or ys i b)
zip_at R [] ys i a b z h = absurd (omega arith)
zip_at R (x ∷ xs) [] i a b z h = absurd z
zip_at R (x ∷ xs) (y ∷ ys) zero a b z h = z.0
zip_at R (x ∷ xs) (y ∷ ys) (suc i) a b z h = zip_at R xs ys i a b z.1 (omega arith)

pub zip_length : {A B : Type 0} (R : A → B → Type 0) (xs : List A) (ys : List B) → AllZip R xs ys → length xs ≡ length ys
zip_length R [] [] z = refl
zip_length R [] (y ∷ ys) z = absurd z
zip_length R (x ∷ xs) [] z = absurd z
zip_length R (x ∷ xs) (y ∷ ys) z = ap suc (zip_length R xs ys z.1)

-- A cell that no entry names shows its own bit.
pub shows_own : (faults : ForcedNets) (q : ℕ) (own : Bool) → AllByRecursion (λ (e : ℕ × Bool). (e.0 == q) ≡ false) faults → shown_net faults q own ≡ own
shows_own [] q own all = refl
shows_own (e ∷ faults) q own all = passed (e.0 == q) all.0 (shows_own faults q own all.1)
  where
    passed : (b : Bool) → b ≡ false → shown_net faults q own ≡ own → unwrap_or (option_map (λ (e : ℕ × Bool). e.1) (cond b (Some e) (find (λ (e : ℕ × Bool). e.0 == q) faults))) own ≡ own
    passed true h k = cc h
    passed false h k = k

-- The words of a state.

module _ (code : Code) (is_code : IsCode code) where
  pub same_lengths : (ws : Words) (s s' : Bits) → length (codewords code ws s) ≡ length (codewords code ws s')
  same_lengths [] s s' = refl
  same_lengths (w ∷ ws) s s' =
      length-append (encoded code (bits_at w s)) (codewords code ws s)
      ∙ (ap₂ (λ (a b : ℕ). a + b) (one_length w s ∙ sym (one_length w s')) (same_lengths ws s s')
      ∙ sym (length-append (encoded code (bits_at w s')) (codewords code ws s')))
    where
      one_length : (w : List ℕ) (s : Bits) → length (encoded code (bits_at w s)) ≡ length w + code.columns
      one_length w s = length_encoded code is_code (bits_at w s) ∙ ap (λ (n : ℕ). n + code.columns) (length-map w (λ i. get_or s i false))

  -- the words of a list that is at most n places apart from the codewords of a state
  pub words_near : (s : Bits) (n : ℕ) (ws : Words) (bits : Bits) (at : ℕ) → length (drop at bits) ≡ length (codewords code ws s) → apart (drop at bits) (codewords code ws s) ≤ n
      → StateWordsAre code (λ w z. apart z (encoded code (bits_at w s)) ≤ n) ws bits at
  words_near s n [] bits at long near = tt
  words_near s n (w ∷ ws) bits at long near =
      let front = take size (drop at bits) in
      let back = drop size (drop at bits) in
      let split : front ++ back ≡ drop at bits = take-append-drop size (drop at bits) in
      let back_is : back ≡ drop ((at + length w) + code.columns) bits = drop-drop size at bits ∙ ap (λ (k : ℕ). drop k bits) grouped in
      let all_long : length (drop at bits) ≡ size + length (codewords code ws s) = long ∙ (length-append word (codewords code ws s) ∙ ap (λ (k : ℕ). k + length (codewords code ws s)) word_length) in
      let front_long : length front ≡ length word = length-take size (drop at bits) ∙ (shorter _ _ all_long ∙ sym word_length) in
      let back_long : length back ≡ length (codewords code ws s) = length-drop size (drop at bits) ∙ rest_length _ _ all_long in
      let sum : apart front word + apart back (codewords code ws s) ≤ n =
      subst (λ (k : ℕ). k ≤ n) (apart_append front back word (codewords code ws s) front_long) (subst (λ (bs : Bits). apart bs (word ++ codewords code ws s) ≤ n) (sym split) near) in (
        subst (λ (k : ℕ). apart (take k (drop at bits)) word ≤ n) taken (left_part _ _ sum),
        words_near s n ws bits ((at + length w) + code.columns) (subst (λ (bs : Bits). length bs ≡ length (codewords code ws s)) back_is back_long) (subst (λ (bs : Bits). apart bs (codewords code ws s) ≤ n) back_is (right_part _ _ sum)),
      )
    where
      word : Bits
      word = encoded code (bits_at w s)

      size : ℕ
      size = length w + code.columns

      grouped : at + (length w + code.columns) ≡ (at + length w) + code.columns
      grouped = omega arith

      taken : length w + code.columns ≡ ((at + length w) + code.columns) - at
      taken = omega arith

      word_length : length (encoded code (bits_at w s)) ≡ length w + code.columns
      word_length = length_encoded code is_code (bits_at w s) ∙ ap (λ (n : ℕ). n + code.columns) (length-map w (λ i. get_or s i false))

      shorter : (k m : ℕ) → k ≡ (length w + code.columns) + m → Rattle.std.proofs.Common.min (length w + code.columns) k ≡ length w + code.columns
      shorter k m e = omega arith

      rest_length : (k m : ℕ) → k ≡ (length w + code.columns) + m → k - (length w + code.columns) ≡ m
      rest_length k m e = omega arith

      left_part : (a b : ℕ) → a + b ≤ n → a ≤ n
      left_part a b h = omega arith

      right_part : (a b : ℕ) → a + b ≤ n → b ≤ n
      right_part a b h = omega arith

pub words_weaker : (code : Code) (P Q : List ℕ → Bits → Type 0) → ((w : List ℕ) (z : Bits) → P w z → Q w z) → (ws : Words) (bits : Bits) (at : ℕ) → StateWordsAre code P ws bits at → StateWordsAre code Q ws bits at
words_weaker code P Q f [] bits at all = tt
words_weaker code P Q f (w ∷ ws) bits at all = (f w _ all.0, words_weaker code P Q f ws bits ((at + length w) + code.columns) all.1)

pub no_word : (code : Code) (P : List ℕ → Bits → Type 0) (ws : Words) (bits : Bits) (at : ℕ) → StateWordsAre code P ws bits at → SomeStateWord code (λ w z. P w z → ⊥) ws bits at → ⊥
no_word code P [] bits at all some = absurd some
no_word code P (w ∷ ws) bits at all (inl h) = h all.0
no_word code P (w ∷ ws) bits at all (inr h) = no_word code P ws bits ((at + length w) + code.columns) all.1 h

pub no_output_word : (P : ℕ × List ℕ → Type 0) (ws : List (ℕ × List ℕ)) → AllByRecursion P ws → SomeOutputWord (λ w. P w → ⊥) ws → ⊥
no_output_word P [] all some = absurd some
no_output_word P (w ∷ ws) all (inl h) = h all.0
no_output_word P (w ∷ ws) all (inr h) = no_output_word P ws all.1 h

none_apart : (z u : Bits) → apart z u ≤ 0 → z ≡ u
none_apart z u h = apart_zero z u (omega arith)

module _ (code : Code) (is_code : IsCode code) (d : ℕ) (is_distance : IsDistance code d) where
  -- a word that is near is right or no codeword
  right_or_none : (z u : Bits) (m n : ℕ) → length u ≡ m → m ≤ data_places code → n < d → apart z (encoded code u) ≤ n → (z ≡ encoded code u) ⊎ (IsCodeword code m z → ⊥)
  right_or_none z u m n long fits wide near = by_word (same_or_not z (encoded code u)) (eq-zero-or-pos (apart z (encoded code u)))
    where
      by_word : (z ≡ encoded code u) ⊎ (z ≢ encoded code u) → (apart z (encoded code u) ≡ 0) ⊎ (0 < apart z (encoded code u)) → (z ≡ encoded code u) ⊎ (IsCodeword code m z → ⊥)
      by_word (inl e) h = inl e
      by_word (inr other) (inl e) = inl (apart_zero z (encoded code u) e)
      by_word (inr other) (inr h) = inr (λ word. no_codeword_near code is_code d is_distance m fits z u long h (omega arith) word)

  -- state words that are near are all right, or one is no codeword
  pub state_words_tell : (s : Bits) (n : ℕ) → n < d → (ws : Words) → AllByRecursion (λ w. (1 ≤ length w) × (length w ≤ data_places code)) ws → (bits : Bits) (at : ℕ)
      → StateWordsAre code (λ w z. apart z (encoded code (bits_at w s)) ≤ n) ws bits at
      → StateWordsAre code (λ w z. z ≡ encoded code (bits_at w s)) ws bits at ⊎ SomeStateWord code (IsNoCodeword code) ws bits at
  state_words_tell s n wide [] fit bits at near = inl tt
  state_words_tell s n wide (w ∷ ws) fit bits at near =
      by_first
      (right_or_none _ (bits_at w s) (length w) n (length-map w (λ i. get_or s i false)) fit.0.1 wide near.0)
      (state_words_tell s n wide ws fit.1 bits ((at + length w) + code.columns) near.1)
    where
      by_first : {A B C D : Type 0} → A ⊎ C → B ⊎ D → (A × B) ⊎ (C ⊎ D)
      by_first (inr c) r = inr (inl c)
      by_first (inl a) (inl b) = inl (a, b)
      by_first (inl a) (inr h) = inr (inr h)

  -- the same of output words
  pub output_words_tell : (y z : Bits) (n p : ℕ) → n < d → (ws : List (ℕ × List ℕ)) → AllByRecursion (λ (w : ℕ × List ℕ). (1 ≤ length w.1) × (length w.1 ≤ data_places code)) ws
      → AllByRecursion (λ (w : ℕ × List ℕ). apart (output_word code p z w) (encoded code (bits_at w.1 y)) ≤ n) ws
      → AllByRecursion (λ (w : ℕ × List ℕ). output_word code p z w ≡ encoded code (bits_at w.1 y)) ws ⊎ SomeOutputWord (λ (w : ℕ × List ℕ). IsNoCodeword code w.1 (output_word code p z w)) ws
  output_words_tell y z n p wide [] fit near = inl tt
  output_words_tell y z n p wide (w ∷ ws) fit near =
      by_first
      (right_or_none _ (bits_at w.1 y) (length w.1) n (length-map w.1 (λ i. get_or y i false)) fit.0.1 wide near.0)
      (output_words_tell y z n p wide ws fit.1 near.1)
    where
      by_first : {A B C D : Type 0} → A ⊎ C → B ⊎ D → (A × B) ⊎ (C ⊎ D)
      by_first (inr c) r = inr (inl c)
      by_first (inl a) (inl b) = inl (a, b)
      by_first (inl a) (inr h) = inr (inr h)
