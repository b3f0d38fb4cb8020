-- From sums to the size of a model.
use Rattle.std.proofs.Common.{◌≡◌, sym, subst, ℕ, ◌*◌, ◌<◌, ◌≤◌, min, List, [], ◌∷◌, length, map, arith, All, Option, None, Some, Result, Ok, Err, IfOk, IfSome}
use Rattle.std.specs.List.{AllByRecursion, AllZip}
use Rattle.std.proofs.lemmas.List.{length-map}
use Rattle.std.proofs.lemmas.List.Elements.{All-from_recursion, All-weaker, All-nil, All-cons}
use Rattle.netlist_spec.specs.Netlist.{Model}
use Rattle.netlist_spec.specs.Models.{Latch, latches_of, latch_inputs, latch_outputs, output_nets}
use Rattle.netlist_spec.proofs.OneValue.{All_front, All_back}
use Rattle.guard_spec.specs.Codes.{Code, Mode, detect, correct, data_places}
use Rattle.guard_spec.specs.Words.{Words, Layout, IsPartition, all_numbers}
use Rattle.guard_spec.specs.Plain.{IsSizeWith}
use Rattle.size_laws.specs.Sizes.{Fits, HoldsOfOne}
use Rattle.plain_size.specs.Cones.{Source, StandOnce, read_words}
use Rattle.plain_size.specs.Sizes.{IsPartitioned, IsUpToLimit}
use Rattle.plain_size.specs.Sums.{AreWords, IsLarge, IsOutputSum, IsWholeSum, partial}
use Rattle.plain_size.proofs.OnceLemmas.{words_once}

-- ---- lists

pub zip_mapped : {A B C : Type 0} (R : B → C → Type 0) (f : A → B) (g : A → C) (xs : List A) → ((x : A) → R (f x) (g x)) → AllZip R (map f xs) (map g xs)
zip_mapped R f g [] h = tt
zip_mapped R f g (x ∷ xs) h = (h x, zip_mapped R f g xs h)

pub both_ok : {T E : Type 0} (r : Result T E) {P Q R : T → Type 0} → IfOk r P → IfOk r Q → ((x : T) → P x → Q x → R x) → IfOk r R
both_ok (Ok x) p q f = f x p q
both_ok (Err e) p q f = tt

-- ---- words

words_short : (n k : ℕ) (words : Words) → IsPartition n k words → All (λ w. length w ≤ k) words
words_short n k words is = All-weaker (λ w. (1 ≤ length w) × (length w ≤ k)) (λ w. length w ≤ k) (λ w h. h.1) words (All-from_recursion (λ w. (1 ≤ length w) × (length w ≤ k)) words is.lengths)

numbers_within : (P : ℕ → Type 0) (words : Words) → AllByRecursion P (all_numbers words) → All (λ w. All P w) words
numbers_within P [] all = All-nil (λ w. All P w)
numbers_within P (w ∷ words) all = All-cons (λ w. All P w) w words (All-from_recursion P w (All_front P w (all_numbers words) all)) (numbers_within P words (All_back P w (all_numbers words) all))

words_of : (code : Code) (n : ℕ) (words : Words) → IsPartition n (data_places code) words → AreWords code n words
words_of code n words is = record { short = words_short n (data_places code) words is; within = numbers_within (λ i. i < n) words is.no_other }

read_words_of : (code : Code) (n : ℕ) (mode : Mode) (state : Words) → AreWords code n state → AreWords code n (read_words mode state)
read_words_of code n detect state is = record { short = All-nil (λ w. length w ≤ data_places code); within = All-nil (λ w. All (λ i. i < n) w) }
read_words_of code n correct state is = is

read_words_once : (n : ℕ) (mode : Mode) (state : Words) → StandOnce n state → StandOnce n (read_words mode state)
read_words_once n detect state once = λ i a b u v h at also c d. absurd (cc at)
read_words_once n correct state once = once

module _ (m : Model) (code : Code) (l : Layout) (is : IsPartitioned m code l) where
  pub latch_count : length (latch_inputs m) ≡ length (latches_of m)
  latch_count = length-map (latches_of m) (λ (q : Latch). q.d)

  pub shown_count : length (latch_outputs m) ≡ length (latches_of m)
  shown_count = length-map (latches_of m) (λ (q : Latch). q.q)

  pub state_words : AreWords code (length (latches_of m)) l.state
  state_words = words_of code (length (latches_of m)) l.state is.state

  pub output_words : AreWords code (length (output_nets m)) l.output
  output_words = words_of code (length (output_nets m)) l.output is.output

  pub words_read : (mode : Mode) → AreWords code (length (latches_of m)) (read_words mode l.state)
  words_read mode = read_words_of code (length (latches_of m)) mode l.state state_words

  pub words_read_once : (mode : Mode) → StandOnce (length (latch_outputs m)) (read_words mode l.state)
  words_read_once mode =
      subst (λ (n : ℕ). StandOnce n (read_words mode l.state)) (sym shown_count)
      (read_words_once (length (latches_of m)) mode l.state (words_once (length (latches_of m)) (data_places code) l.state is.state))

  pub layout_fits : Fits (length (latches_of m)) (length (output_nets m)) l
  layout_fits = record { state = is.state.no_other; output = is.output.no_other }

pub words_under : (a b : Code) (n k : ℕ) (ws vs : Words) → a ≡ b → n ≡ k → ws ≡ vs → AreWords a n ws → AreWords b k vs
words_under a b n k ws vs e f g is = subst (λ (d : Code). AreWords d k vs) e (subst (λ (i : ℕ). AreWords a i vs) f (subst (λ (us : Words). AreWords a n us) g is))

-- ---- the size

pub too_large : (p : Source) (rails : ℕ) (l : Layout) → HoldsOfOne (IsSizeWith p.file p.library p.m p.code p.mode p.radius rails l) → IsLarge p rails l → IsUpToLimit (IsSizeWith p.file p.library p.m p.code p.mode p.radius rails l) None
too_large p rails l (n, one) large = (n, one.holds, large n one.holds)

-- a cut sum of rails
pub rails_whole : (rails cost result : ℕ) → result ≡ min (rails * cost) 1000001 → result ≤ 1000000 → rails * cost ≡ result
rails_whole rails cost result e h = omega arith

pub rails_passed : (sum result n : ℕ) → result ≡ min sum 1000001 → 1000000 < result → sum ≤ n → 1000000 < n
rails_passed sum result n e h below = omega arith

pub whole_of : (p : Source) (rails : ℕ) (l : Layout) (start total : ℕ) (r : Option ℕ) → (partial p rails l 0 0 start → partial p rails l (length l.state) 0 total)
    → ((i j n : ℕ) → length l.state ≤ i → length l.output ≤ j → partial p rails l i j n → IsSizeWith p.file p.library p.m p.code p.mode p.radius rails l n) → IsOutputSum p rails l total r → IsWholeSum p rails l start r
whole_of p rails l start total None half all is = λ begins. is (half begins)
whole_of p rails l start total (Some n) half all is = λ begins. all (length l.state) (length l.output) n (omega arith) (omega arith) (is (half begins))

-- the size, or that it is above the limit
pub up_to_limit : (p : Source) (rails : ℕ) (l : Layout) (start : ℕ) (r : Option ℕ) → HoldsOfOne (IsSizeWith p.file p.library p.m p.code p.mode p.radius rails l) → partial p rails l 0 0 start → IfSome r (λ n. n ≤ 1000000) → IsWholeSum p rails l start r
    → IsUpToLimit (IsSizeWith p.file p.library p.m p.code p.mode p.radius rails l) r
up_to_limit p rails l start None one begins small is = too_large p rails l one (is begins)
up_to_limit p rails l start (Some n) one begins small is = (is begins, small)
