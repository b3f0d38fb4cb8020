-- Partial sums of the size for a source.
use Rattle.std.proofs.Common.{◌≡◌, sym, ◌∙◌, ap, subst, refl, ℕ, zero, suc, ◌+◌, ◌*◌, ◌≤◌, Bool, true, false, List, [], ◌∷◌, ◌++◌, length, map, take, drop, slice_get, Some, arith}
use Rattle.std.specs.Prelude.{sum_by, if◌then◌else◌}
use Rattle.std.specs.List.{AllZip}
use Rattle.std.proofs.lemmas.List.Sums.{sum_by-append, sum_by-cons, sum_by_push}
use Rattle.std.proofs.lemmas.List.{take_more}
use Rattle.std.proofs.lemmas.Option.{slice_get_within, get_or_from_slice_get}
use Rattle.netlist_spec.specs.Netlist.{Name, Located, Model, File}
use Rattle.netlist_spec.specs.Covers.{Library}
use Rattle.netlist_spec.specs.Models.{main_model, latch_inputs, output_nets}
use Rattle.netlist_spec.specs.Size.{cost_of, main_cost, whole_cost}
use Rattle.guard_spec.specs.Codes.{Code, Mode}
use Rattle.guard_spec.specs.Words.{Words, Layout}
use Rattle.guard_spec.specs.Plain.{AreNets, word_cost, rail_cost, WordsCost, IsSizeWith}
use Rattle.netlist_spec.specs.Cones.{marked_sum, ConeCostOf, RestsOnLatch}
use Rattle.size_laws.specs.Partial.{IsSumOver, first_words, IsBitCost, IsWordCost, IsPartialSize}
use Rattle.size_laws.proofs.SourceCones.{one_cone_cost, rests_decided}
use Rattle.size_laws.proofs.Partial.{words_more, words_within, next_within}

-- ---- one cone

marks_within : {A : Type 0} (f : A → ℕ) (xs : List A) (marks : List Bool) → marked_sum f xs marks ≤ sum_by f xs
marks_within f [] marks = omega arith
marks_within f (x ∷ xs) [] = omega arith
marks_within f (x ∷ xs) (mark ∷ marks) =
    let h = marks_within f xs marks in
    let s = sum_by-cons f x xs in
    by_mark mark h s
  where
    by_mark : (b : Bool) → marked_sum f xs marks ≤ sum_by f xs → sum_by f (x ∷ xs) ≡ f x + sum_by f xs → (if b then f x else 0) + marked_sum f xs marks ≤ sum_by f (x ∷ xs)
    by_mark true h s = omega arith
    by_mark false h s = omega arith

sum_of_map : {A B : Type 0} (f : B → ℕ) (g : A → B) (xs : List A) → sum_by f (map g xs) ≡ sum_by (λ x. f (g x)) xs
sum_of_map f g [] = refl
sum_of_map f g (x ∷ xs) =
    let a = sum_by-cons f (g x) (map g xs) in
    let b = sum_by-cons (λ x. f (g x)) x xs in
    let rest = sum_of_map f g xs in
    omega arith

pub cone_within : (file : File) (library : Library) (m : Model) (x : Name) (n : ℕ) → main_model file ≡ Some m → ConeCostOf file library m x n → n ≤ whole_cost file library
cone_within file library m x n is h =
    let within = marks_within (cost_of file library) (map (λ s. s.what) m.statements) h.0 in
    let e = sum_of_map (cost_of file library) (λ (s : Located). s.what) m.statements in
    let w : whole_cost file library ≡ sum_by (λ (s : Located). cost_of file library s.what) m.statements = ap (main_cost file library) is in
    let t : n ≡ marked_sum (cost_of file library) (map (λ s. s.what) m.statements) h.0 = h.2 in
    omega arith

-- ---- the first elements of a list

take_one : {A : Type 0} (xs : List A) (i : ℕ) (x : A) → slice_get xs i ≡ Some x → take (i + 1) xs ≡ take i xs ++ x ∷ []
take_one xs i x at = take_more xs i x (slice_get_within xs i x at) ∙ ap (λ y. take i xs ++ y ∷ []) (get_or_from_slice_get xs i x x at)

take_whole : {A : Type 0} (xs : List A) (i : ℕ) → length xs ≤ i → take i xs ≡ xs
take_whole [] zero h = refl
take_whole [] (suc i) h = refl
take_whole (x ∷ xs) zero h = absurd (omega arith)
take_whole (x ∷ xs) (suc i) h = ap (λ ys. x ∷ ys) (take_whole xs i (omega arith))

taken_and_left : {A : Type 0} (xs : List A) (i : ℕ) → xs ≡ take i xs ++ drop i xs
taken_and_left [] zero = refl
taken_and_left [] (suc i) = refl
taken_and_left (x ∷ xs) zero = refl
taken_and_left (x ∷ xs) (suc i) = ap (λ ys. x ∷ ys) (taken_and_left xs i)

taken_and_next : {A : Type 0} (xs : List A) (i : ℕ) (x : A) → slice_get xs i ≡ Some x → xs ≡ take i xs ++ x ∷ drop (suc i) xs
taken_and_next [] i x at = absurd (cc at)
taken_and_next (y ∷ xs) zero x at = let same : Some y ≡ Some x = at in ap (λ z. z ∷ xs) (cc same)
taken_and_next (y ∷ xs) (suc i) x at = ap (λ ys. y ∷ ys) (taken_and_next xs i x at)

-- ---- words

module _ (file : File) (library : Library) (m : Model) (code : Code) (mode : Mode) (radius rails : ℕ) (l : Layout) where
  abbrev Cost : List Name → Words → ℕ → Type 0
  Cost all words n = WordsCost (ConeCostOf file library m) (RestsOnLatch file library m) code mode radius l all words n

  abbrev Sum : Layout → ℕ → Type 0
  Sum done n = IsSumOver (ConeCostOf file library m) (RestsOnLatch file library m) code mode radius rails l done (latch_inputs m) (output_nets m) n

  abbrev places_of : Words → ℕ
  places_of words = sum_by (λ w. length w + code.columns) words

  sum_none : Sum (record { state = []; output = [] }) (rails * rail_cost code l)
  sum_none = record { state_cost = 0; is_state_cost = ([], tt, refl); output_cost = 0; is_output_cost = ([], tt, refl); total = (let z : rails * rail_cost code l ≡ 0 + 0 + 0 + rails * rail_cost code l = omega arith in z) }

  sum_state : (done : Layout) (word : List ℕ) (nets : List Name) (n c : ℕ) → Sum done n → AreNets (latch_inputs m) word nets → IsWordCost file library m code mode radius l.state nets c → Sum (record done { state = done.state ++ word ∷ [] }) (n + (length word + code.columns) + c)
  sum_state done word nets n c s are cost = record {
    state_cost = s.state_cost + c;
    is_state_cost = words_more (ConeCostOf file library m) (RestsOnLatch file library m) code mode radius (one_cone_cost file library m) (rests_decided file library m) l (latch_inputs m) done.state word nets s.state_cost c s.is_state_cost are cost;
    output_cost = s.output_cost;
    is_output_cost = s.is_output_cost;
    total = (let h = sum_by_push (λ (w : List ℕ). length w + code.columns) done.state word in let t = s.total in omega arith);
  }

  sum_output : (done : Layout) (word : List ℕ) (nets : List Name) (n c : ℕ) → Sum done n → AreNets (output_nets m) word nets → IsWordCost file library m code mode radius l.state nets c → Sum (record done { output = done.output ++ word ∷ [] }) (n + c)
  sum_output done word nets n c s are cost = record {
    state_cost = s.state_cost;
    is_state_cost = s.is_state_cost;
    output_cost = s.output_cost + c;
    is_output_cost = words_more (ConeCostOf file library m) (RestsOnLatch file library m) code mode radius (one_cone_cost file library m) (rests_decided file library m) l (output_nets m) done.output word nets s.output_cost c s.is_output_cost are cost;
    total = (let t = s.total in omega arith);
  }

  sum_all : (n : ℕ) → Sum l n → IsSizeWith file library m code mode radius rails l n
  sum_all n s = record { state_cost = s.state_cost; is_state_cost = s.is_state_cost; output_cost = s.output_cost; is_output_cost = s.is_output_cost; total = s.total }

  -- ---- sums that stop

  costs_within : (all : List Name) (done words rest : Words) (a n : ℕ) → words ≡ done ++ rest → Cost all done a → Cost all words n → a ≤ n
  costs_within all done words rest a n split w v =
      words_within (ConeCostOf file library m) (RestsOnLatch file library m) code mode radius (one_cone_cost file library m) (rests_decided file library m) l all done rest a n w (subst (λ (ws : Words). Cost all ws n) split v)

  costs_next : (all : List Name) (done words : Words) (word : List ℕ) (rest : Words) (nets more : List Name) (costs : List ℕ) (a n : ℕ) → words ≡ done ++ word ∷ rest → Cost all done a → AreNets all word (nets ++ more) → AllZip (IsBitCost file library m code mode radius l.state) nets costs → Cost all words n → a + word_cost code costs ≤ n
  costs_next all done words word rest nets more costs a n split w are bits v =
      next_within (ConeCostOf file library m) (RestsOnLatch file library m) code mode radius (one_cone_cost file library m) (rests_decided file library m) l all done word rest nets more costs a n w are bits (subst (λ (ws : Words). Cost all ws n) split v)

  places_within : (done words rest : Words) → words ≡ done ++ rest → places_of done ≤ places_of words
  places_within done words rest split =
      let h = sum_by-append (λ (w : List ℕ). length w + code.columns) done rest in
      let e = ap places_of split in
      omega arith

  places_next : (done words : Words) (word : List ℕ) (rest : Words) → words ≡ done ++ word ∷ rest → places_of done + (length word + code.columns) ≤ places_of words
  places_next done words word rest split =
      let h = sum_by-append (λ (w : List ℕ). length w + code.columns) done (word ∷ rest) in
      let k = sum_by-cons (λ (w : List ℕ). length w + code.columns) word rest in
      let e = ap places_of split in
      omega arith

  sum_within : (done : Layout) (later others : Words) (p n : ℕ) → l.state ≡ done.state ++ later → l.output ≡ done.output ++ others → Sum done p → IsSizeWith file library m code mode radius rails l n → p ≤ n
  sum_within done later others p n split split_others s size =
      let a = places_within done.state l.state later split in
      let b = costs_within (latch_inputs m) done.state l.state later s.state_cost size.state_cost split s.is_state_cost size.is_state_cost in
      let c = costs_within (output_nets m) done.output l.output others s.output_cost size.output_cost split_others s.is_output_cost size.is_output_cost in
      let t = s.total in
      let u = size.total in
      omega arith

  state_within : (done : Layout) (word : List ℕ) (rest later : Words) (nets more : List Name) (costs : List ℕ) (p n : ℕ) → Sum done p → l.state ≡ done.state ++ word ∷ rest → l.output ≡ done.output ++ later → AreNets (latch_inputs m) word (nets ++ more) → AllZip (IsBitCost file library m code mode radius l.state) nets costs → IsSizeWith file library m code mode radius rails l n
      → p + (length word + code.columns) + word_cost code costs ≤ n
  state_within done word rest later nets more costs p n s split others are bits size =
      let a = places_next done.state l.state word rest split in
      let b = costs_next (latch_inputs m) done.state l.state word rest nets more costs s.state_cost size.state_cost split s.is_state_cost are bits size.is_state_cost in
      let c = costs_within (output_nets m) done.output l.output later s.output_cost size.output_cost others s.is_output_cost size.is_output_cost in
      let t = s.total in
      let u = size.total in
      omega arith

  output_within : (done : Layout) (word : List ℕ) (rest later : Words) (nets more : List Name) (costs : List ℕ) (p n : ℕ) → Sum done p → l.state ≡ done.state ++ later → l.output ≡ done.output ++ word ∷ rest → AreNets (output_nets m) word (nets ++ more) → AllZip (IsBitCost file library m code mode radius l.state) nets costs → IsSizeWith file library m code mode radius rails l n
      → p + word_cost code costs ≤ n
  output_within done word rest later nets more costs p n s others split are bits size =
      let a = places_within done.state l.state later others in
      let b = costs_within (latch_inputs m) done.state l.state later s.state_cost size.state_cost others s.is_state_cost size.is_state_cost in
      let c = costs_next (output_nets m) done.output l.output word rest nets more costs s.output_cost size.output_cost split s.is_output_cost are bits size.is_output_cost in
      let t = s.total in
      let u = size.total in
      omega arith

  -- ---- the first words

  abbrev First : (i j : ℕ) → ℕ → Type 0
  First i j n = IsPartialSize file library m code mode radius rails l i j n

  pub first_none : First 0 0 (rails * rail_cost code l)
  first_none = sum_none

  pub first_state : (i j : ℕ) (word : List ℕ) (nets : List Name) (n c : ℕ) → slice_get l.state i ≡ Some word → First i j n → AreNets (latch_inputs m) word nets → IsWordCost file library m code mode radius l.state nets c → First (i + 1) j (n + (length word + code.columns) + c)
  first_state i j word nets n c at s are cost =
      subst (λ (ws : Words). Sum (record { state = ws; output = take j l.output }) (n + (length word + code.columns) + c)) (sym (take_one l.state i word at)) (sum_state (first_words l i j) word nets n c s are cost)

  pub first_output : (i j : ℕ) (word : List ℕ) (nets : List Name) (n c : ℕ) → slice_get l.output j ≡ Some word → First i j n → AreNets (output_nets m) word nets → IsWordCost file library m code mode radius l.state nets c → First i (j + 1) (n + c)
  first_output i j word nets n c at s are cost =
      subst (λ (ws : Words). Sum (record { state = take i l.state; output = ws }) (n + c)) (sym (take_one l.output j word at)) (sum_output (first_words l i j) word nets n c s are cost)

  pub first_all : (i j n : ℕ) → length l.state ≤ i → length l.output ≤ j → First i j n → IsSizeWith file library m code mode radius rails l n
  first_all i j n all others s =
      sum_all n (subst (λ (ws : Words). Sum (record { state = l.state; output = ws }) n) (take_whole l.output j others) (subst (λ (ws : Words). Sum (record { state = ws; output = take j l.output }) n) (take_whole l.state i all) s))

  pub whole_size : (n : ℕ) → IsSizeWith file library m code mode radius rails l n → First (length l.state) (length l.output) n
  whole_size n size =
      subst (λ (ws : Words). Sum (record { state = ws; output = take (length l.output) l.output }) n) (sym (take_whole l.state (length l.state) (omega arith)))
      (subst (λ (ws : Words). Sum (record { state = l.state; output = ws }) n) (sym (take_whole l.output (length l.output) (omega arith)))
      (record { state_cost = size.state_cost; is_state_cost = size.is_state_cost; output_cost = size.output_cost; is_output_cost = size.is_output_cost; total = size.total }))

  pub first_within : (i j p n : ℕ) → First i j p → IsSizeWith file library m code mode radius rails l n → p ≤ n
  first_within i j p n s size = sum_within (first_words l i j) (drop i l.state) (drop j l.output) p n (taken_and_left l.state i) (taken_and_left l.output j) s size

  pub first_and_state_within : (i j : ℕ) (word : List ℕ) (nets more : List Name) (costs : List ℕ) (p n : ℕ) → slice_get l.state i ≡ Some word → First i j p → AreNets (latch_inputs m) word (nets ++ more) → AllZip (IsBitCost file library m code mode radius l.state) nets costs → IsSizeWith file library m code mode radius rails l n
      → p + (length word + code.columns) + word_cost code costs ≤ n
  first_and_state_within i j word nets more costs p n at s are bits size =
      state_within (first_words l i j) word (drop (suc i) l.state) (drop j l.output) nets more costs p n s (taken_and_next l.state i word at) (taken_and_left l.output j) are bits size

  pub first_and_output_within : (i j : ℕ) (word : List ℕ) (nets more : List Name) (costs : List ℕ) (p n : ℕ) → slice_get l.output j ≡ Some word → First i j p → AreNets (output_nets m) word (nets ++ more) → AllZip (IsBitCost file library m code mode radius l.state) nets costs → IsSizeWith file library m code mode radius rails l n
      → p + word_cost code costs ≤ n
  first_and_output_within i j word nets more costs p n at s are bits size =
      output_within (first_words l i j) word (drop (suc j) l.output) (drop i l.state) nets more costs p n s (taken_and_left l.state i) (taken_and_next l.output j word at) are bits size
