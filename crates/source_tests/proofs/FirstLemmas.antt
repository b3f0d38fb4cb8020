-- The first that is found: among nets, among the items of a model, and among the used models of a file.
use Rattle.std.proofs.Common.{◌≡◌, refl, sym, ◌∙◌, ap, subst, ℕ, zero, suc, ◌+◌, ◌<◌, ◌≤◌, List, [], ◌∷◌, ◌++◌, length, map, find, take, drop, get_or, Bool, true, false, cond, Option, Some, None, slice_get, inl, inr, add-one, drop-cons}
use Rattle.std.specs.List.{AllByRecursion}
use Rattle.std.specs.Option.{option_or}
use Rattle.std.proofs.lemmas.List.{drop_all, take_all}
use Rattle.netlist_spec.specs.Netlist.{same_name, Model, File}
use Rattle.netlist_spec.specs.Models.{first_model}
use Rattle.netlist_spec.specs.FileOrder.{Item, first_answer}
use Rattle.netlist_spec.specs.Sound.{Chain, IsMain, IsUsed}
use Rattle.netlist_spec.specs.SoundFaults.{IsFirstUsed}
use Rattle.source_laws.proofs.Lists.{Among, all_among}
use Rattle.source_tests.proofs.NetLemmas.{map_more}

-- ---- the first of some nets that passes a test

module _ {X A : Type 0} (test : A → Bool) (f : X → A) (xs : List X) (i : ℕ) (d : X) where
  one_net : i < length xs → find test (map f (drop i xs)) ≡ cond (test (f (get_or xs i d))) (Some (f (get_or xs i d))) (find test (map f (drop (i + 1) xs)))
  one_net h =
      ap (λ ys. find test (map f ys)) (drop-cons xs i d h)
      ∙ ap (λ (k : ℕ). cond (test (f (get_or xs i d))) (Some (f (get_or xs i d))) (find test (map f (drop k xs)))) (sym (add-one i))

  pub next_net : i < length xs → test (f (get_or xs i d)) ≡ false → find test (map f (drop (i + 1) xs)) ≡ find test (map f (drop i xs))
  next_net h fails = sym (one_net h ∙ ap (λ b. cond b (Some (f (get_or xs i d))) (find test (map f (drop (i + 1) xs)))) fails)

  pub this_net : i < length xs → test (f (get_or xs i d)) ≡ true → find test (map f (drop i xs)) ≡ Some (f (get_or xs i d))
  this_net h passes = one_net h ∙ ap (λ b. cond b (Some (f (get_or xs i d))) (find test (map f (drop (i + 1) xs)))) passes

pub no_net : {X A : Type 0} (test : A → Bool) (f : X → A) (xs : List X) (i : ℕ) → length xs ≤ i → find test (map f (drop i xs)) ≡ None
no_net test f xs i h = ap (λ ys. find test (map f ys)) (drop_all i xs h)

-- ---- the first answer along the items of a model, which are given by their places

module _ {X A : Type 0} (answer : List Item → Item → Option A) (f : X → Item) (xs : List X) (i : ℕ) where
  one_item : (d : X) → i < length xs → first_answer answer (map f (take i xs)) (map f (drop i xs))
      ≡ option_or (answer (map f (take i xs)) (f (get_or xs i d))) (first_answer answer (map f (take (i + 1) xs)) (map f (drop (i + 1) xs)))
  one_item d h =
      let x = get_or xs i d in
      ap (λ ys. first_answer answer (map f (take i xs)) (map f ys)) (drop-cons xs i d h ∙ ap (λ (k : ℕ). x ∷ drop k xs) (sym (add-one i)))
      ∙ ap (λ (ps : List Item). option_or (answer (map f (take i xs)) (f x)) (first_answer answer ps (map f (drop (i + 1) xs)))) (sym (map_more f xs i d h))

  pub next_item : (d : X) → i < length xs → answer (map f (take i xs)) (f (get_or xs i d)) ≡ None
      → first_answer answer (map f (take (i + 1) xs)) (map f (drop (i + 1) xs)) ≡ first_answer answer (map f (take i xs)) (map f (drop i xs))
  next_item d h none = sym (one_item d h ∙ ap (λ o. option_or o (first_answer answer (map f (take (i + 1) xs)) (map f (drop (i + 1) xs)))) none)

  pub this_item : (d : X) (a : A) → i < length xs → answer (map f (take i xs)) (f (get_or xs i d)) ≡ Some a
      → first_answer answer (map f (take i xs)) (map f (drop i xs)) ≡ Some a
  this_item d a h some = one_item d h ∙ ap (λ o. option_or o (first_answer answer (map f (take (i + 1) xs)) (map f (drop (i + 1) xs)))) some

  pub no_item : length xs ≤ i → first_answer answer (map f (take i xs)) (map f (drop i xs)) ≡ None
  no_item h = ap (λ ys. first_answer answer (map f (take i xs)) (map f ys)) (drop_all i xs h)

-- ---- used models are models of the file

found_among : {A : Type 0} (test : A → Bool) (xs : List A) (x : A) → find test xs ≡ Some x → Among x xs
found_among test [] x e = cc e
found_among {A = A} test (y ∷ ys) x e = by_case (test y) e (found_among test ys x)
  where
    by_case : (b : Bool) → cond b (Some y) (find test ys) ≡ Some x → (find test ys ≡ Some x → Among x ys) → Among x (y ∷ ys)
    by_case true e f = inl (cc e)
    by_case false e f = inr (f e)

first_among : (ms : List Model) (m : Model) → first_model ms ≡ Some m → Among m ms
first_among [] m e = cc e
first_among (k ∷ ms) m e = inl (cc e)

chain_among : (file : File) (n : ℕ) (top m : Model) → IsMain file top → Chain file n top m → Among m file.models
chain_among file zero top m main e = subst (λ k. Among k file.models) e (first_among file.models top main)
chain_among file (suc n) top m main (c, chain, p) = found_among (λ k. same_name k.name p.0) file.models m p.2

pub used_among : (file : File) (m : Model) → IsUsed file m → Among m file.models
used_among file m (top, main, n, chain) = chain_among file n top m main chain

-- ---- the first used model in which something is found

module _ {A : Type 0} (file : File) (finds : Model → A → Type 0) where
  abbrev pub FindsNothing : Model → Type 0
  FindsNothing k = IsUsed file k → (a : A) → finds k a → ⊥

  pub one_more : (i : ℕ) (m : Model) → slice_get file.models i ≡ Some m → FindsNothing m → AllByRecursion FindsNothing (take i file.models) → AllByRecursion FindsNothing (take (i + 1) file.models)
  one_more i m e here before = subst (λ k. AllByRecursion FindsNothing (take k file.models)) (sym (add-one i)) (from file.models i e before)
    where
      from : (ms : List Model) (i : ℕ) → slice_get ms i ≡ Some m → AllByRecursion FindsNothing (take i ms) → AllByRecursion FindsNothing (take (suc i) ms)
      from [] i e a = cc
      from (k ∷ ms) zero e a = let same : k ≡ m = cc e in (subst FindsNothing (sym same) here, tt)
      from (k ∷ ms) (suc i) e a = (a.0, from ms i e a.1)

  pub found_at : (i : ℕ) (m : Model) (a : A) → slice_get file.models i ≡ Some m → AllByRecursion FindsNothing (take i file.models) → IsUsed file m → finds m a → IsFirstUsed file finds a
  found_at i m a e before used here =
      record {
        before = take i file.models;
        model = m;
        after = drop (suc i) file.models;
        split = split_at file.models i e;
        used = used;
        here = here;
        none_before = before;
      }
    where
      split_at : (ms : List Model) (i : ℕ) → slice_get ms i ≡ Some m → ms ≡ take i ms ++ m ∷ drop (suc i) ms
      split_at [] i e = cc e
      split_at (k ∷ ms) zero e = let same : k ≡ m = cc e in ap (λ j. j ∷ ms) same
      split_at (k ∷ ms) (suc i) e = ap (λ js. k ∷ js) (split_at ms i e)

  pub found_nowhere : (i : ℕ) → length file.models ≤ i → AllByRecursion FindsNothing (take i file.models) → (m : Model) → IsUsed file m → (a : A) → finds m a → ⊥
  found_nowhere i h all m used =
      all_among FindsNothing file.models (subst (AllByRecursion FindsNothing) (take_all i file.models h) all) m (used_among file m used) used

-- nothing is found where the test's answer is none
pub no_answer : {A : Type 0} (o : Option A) → ((a : A) → o ≡ Some a → ⊥) → o ≡ None
no_answer None h = refl
no_answer (Some a) h = absurd (h a refl)
