-- Where the places of words stand among the latches and the outputs of a guard.
use Rattle.std.proofs.Common.{◌≡◌, refl, sym, ◌∙◌, ap, ap₂, ℕ, zero, suc, ◌+◌, ◌*◌, ◌<◌, Bool, false, List, [], ◌∷◌, ◌++◌, length, map, get_or, slice_get, Some, arith, length-append}
use Rattle.std.specs.List.{flat_map}
use Rattle.std.proofs.lemmas.List.{length-map}
use Rattle.std.proofs.lemmas.List.Sums.{sum_by-cons}
use Rattle.netlist_spec.specs.SourceRun.{Bits}
use Rattle.netlist_spec.specs.Gates.{Machine}
use Rattle.guard_spec.specs.Codes.{Code, IsCode, checks_of, encoded}
use Rattle.guard_spec.specs.Words.{Words, Layout, bits_at, codewords}
use Rattle.guard_spec.specs.Count.{right_outputs}
use Rattle.block_code.proofs.Coding.{length_checks, length_encoded}
use Rattle.guard_laws.specs.Places.{latches_of_words, HavePlaces}
use Rattle.guard_laws.proofs.Lists.{get_front, inside, get_map, get_of_map}

get_behind : {A : Type 0} (xs ys : List A) (n i : ℕ) → length xs ≡ n → slice_get (xs ++ ys) (n + i) ≡ slice_get ys i
get_behind [] ys n i e = ap (slice_get ys) (let f : n + i ≡ i = omega arith in f)
get_behind (x ∷ xs) ys zero i e = absurd (omega arith)
get_behind (x ∷ xs) ys (suc n) i e = ap (slice_get (x ∷ (xs ++ ys))) (let f : suc n + i ≡ suc (n + i) = omega arith in f) ∙ get_behind xs ys n i (omega arith)

-- the bits of a word whose nets are some roots
word_bits : (u : ℕ → Bool) (ds w roots : List ℕ) → map (λ j. slice_get ds j) w ≡ map (λ (d : ℕ). Some d) roots → bits_at w (map u ds) ≡ map u roots
word_bits u ds [] [] e = refl
word_bits u ds [] (r ∷ roots) e = cc e
word_bits u ds (j ∷ w) [] e = cc e
word_bits u ds (j ∷ w) (r ∷ roots) e =
    let here : slice_get ds j ≡ Some r = cc e in
    let rest : map (λ j. slice_get ds j) w ≡ map (λ (d : ℕ). Some d) roots = cc e in
    ap₂ (λ (b : Bool) (bs : Bits). b ∷ bs) (get_of_map u ds j r here) (word_bits u ds w roots rest)

flat_append : {A B : Type 0} (f : A → List B) (xs ys : List A) → flat_map f (xs ++ ys) ≡ flat_map f xs ++ flat_map f ys
flat_append f [] ys = refl
flat_append f (x ∷ xs) ys = ap (λ zs. f x ++ zs) (flat_append f xs ys) ∙ sym (assoc (f x) (flat_map f xs) (flat_map f ys))
  where
    assoc : {B : Type 0} (a b c : List B) → (a ++ b) ++ c ≡ a ++ (b ++ c)
    assoc [] b c = refl
    assoc (x ∷ a) b c = ap (λ zs. x ∷ zs) (assoc a b c)

module _ (source : Machine) (code : Code) (l : Layout) (is_code : IsCode code) where
  long : (bits : Bits) (ws : Words) → length (codewords code ws bits) ≡ latches_of_words code ws
  long bits [] = refl
  long bits (w ∷ ws) =
      length-append (encoded code (bits_at w bits)) (codewords code ws bits)
      ∙ ap₂ (λ (a b : ℕ). a + b) (length_encoded code is_code (bits_at w bits) ∙ ap (λ (n : ℕ). n + code.columns) (length-map w (λ i. get_or bits i false))) (long bits ws)
      ∙ sym (sum_by-cons (λ w. length w + code.columns) w ws)

  checks_long : (y : Bits) (ws : Words) → length (flat_map (λ w. checks_of code (bits_at w y)) ws) ≡ length ws * code.columns
  checks_long y [] = let e : 0 ≡ 0 * code.columns = omega arith in e
  checks_long y (w ∷ ws) =
      length-append (checks_of code (bits_at w y)) (flat_map (λ w. checks_of code (bits_at w y)) ws)
      ∙ ap₂ (λ (a b : ℕ). a + b) (length_checks code.columns code.rows is_code.full (bits_at w y)) (checks_long y ws)
      ∙ (let e : code.columns + length ws * code.columns ≡ suc (length ws) * code.columns = grind arith in e)

  at_word : (bits : Bits) (before after : Words) (w : List ℕ) (i : ℕ) → l.state ≡ before ++ w ∷ after → slice_get (codewords code l.state bits) (latches_of_words code before + i) ≡ slice_get (encoded code (bits_at w bits) ++ codewords code after bits) i
  at_word bits before after w i e =
      ap (λ (ws : Words). slice_get (codewords code ws bits) (latches_of_words code before + i)) e
      ∙ ap (λ (bs : Bits). slice_get bs (latches_of_words code before + i)) (flat_append (λ w. encoded code (bits_at w bits)) before (w ∷ after))
      ∙ get_behind (codewords code before bits) (codewords code (w ∷ after) bits) (latches_of_words code before) i (long bits before)

  pub have_places : HavePlaces source code l
  have_places = record {
    place = λ before after w p j d u e at_p at_j.
        let bits : Bits = map u (map (λ r. r.d) source.latches) in
        let short : p < length w = inside w p j at_p in
        let in_data : p < length (bits_at w bits) = let k = length-map w (λ i. get_or bits i false) in omega arith in
        let in_word : p < length (encoded code (bits_at w bits)) = let k = length_encoded code is_code (bits_at w bits) in omega arith in
        at_word bits before after w p e ∙ get_front (encoded code (bits_at w bits)) (codewords code after bits) p in_word
        ∙ get_front (bits_at w bits) (checks_of code (bits_at w bits)) p in_data
        ∙ get_map (λ i. get_or bits i false) w p j at_p ∙ ap (λ (b : Bool). Some b) (get_of_map u (map (λ r. r.d) source.latches) j d at_j);
    check = λ before after w c roots u e h at.
        let bits : Bits = map u (map (λ r. r.d) source.latches) in
        let wide : length (bits_at w bits) ≡ length w = length-map w (λ i. get_or bits i false) in
        let in_word : length w + c < length (encoded code (bits_at w bits)) = let k = length_encoded code is_code (bits_at w bits) in omega arith in
        ap (slice_get (codewords code l.state bits)) (let f : latches_of_words code before + length w + c ≡ latches_of_words code before + (length w + c) = omega arith in f)
        ∙ at_word bits before after w (length w + c) e ∙ get_front (encoded code (bits_at w bits)) (codewords code after bits) (length w + c) in_word
        ∙ get_behind (bits_at w bits) (checks_of code (bits_at w bits)) (length w) c wide
        ∙ ap (λ (bs : Bits). slice_get (checks_of code bs) c) (word_bits u (map (λ r. r.d) source.latches) w roots at);
    output = λ i o u at.
        let short : i < length (map u source.outputs) = let k = length-map source.outputs u in let h = inside source.outputs i o at in omega arith in
        get_front (map u source.outputs) (flat_map (λ w. checks_of code (bits_at w (map u source.outputs))) l.output) i short ∙ get_map u source.outputs i o at;
    output_check = λ before after w c roots u e h at.
        let y : Bits = map u source.outputs in
        let f : List ℕ → Bits = λ w. checks_of code (bits_at w y) in
        let in_word : c < length (f w) = let k = length_checks code.columns code.rows is_code.full (bits_at w y) in omega arith in
        ap (slice_get (right_outputs code l y)) (let g : length source.outputs + length before * code.columns + c ≡ length source.outputs + (length before * code.columns + c) = omega arith in g)
        ∙ get_behind y (flat_map f l.output) (length source.outputs) (length before * code.columns + c) (length-map source.outputs u)
        ∙ ap (λ (ws : Words). slice_get (flat_map f ws) (length before * code.columns + c)) e
        ∙ ap (λ (bs : Bits). slice_get bs (length before * code.columns + c)) (flat_append f before (w ∷ after))
        ∙ get_behind (flat_map f before) (flat_map f (w ∷ after)) (length before * code.columns) c (checks_long y before)
        ∙ get_front (f w) (flat_map f after) c in_word
        ∙ ap (λ (bs : Bits). slice_get (checks_of code bs) c) (word_bits u source.outputs w roots at);
  }
