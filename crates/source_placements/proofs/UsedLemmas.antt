-- The first used model, in file order, in which something is found.
use Rattle.std.proofs.Common.{◌≡◌, refl, sym, ◌∙◌, ap, subst, ℕ, zero, suc, ◌+◌, ◌<◌, ◌≤◌, List, [], ◌∷◌, ◌++◌, length, map, find, take, drop, get_or, Bool, true, false, cond, Option, Some, None, slice_get, arith, inl, inr}
use Rattle.std.specs.List.{AllByRecursion, AllZip}
use Rattle.std.proofs.lemmas.Option.{slice_get_within, slice_get_read}
use Rattle.std.proofs.Math.Nat.{eq-or-lt_of_le}
use Rattle.netlist_spec.specs.Netlist.{same_name, Model, File}
use Rattle.netlist_spec.specs.Models.{first_model}
use Rattle.netlist_spec.specs.FileRules.{HaveLines, first_line}
use Rattle.netlist_spec.specs.Sound.{Chain, IsMain, IsUsed}
use Rattle.line_order.specs.Merge.{AreByLine}
use Rattle.line_order.proofs.MergeLemmas.{by_line_of}
use Rattle.blif_read.specs.declared.file.Model.{Model as ReadModel}
use Rattle.blif_read.specs.View.{model_of}
use Rattle.source_nets.specs.declared.types.ModelSurvey.{ModelSurvey}
use Rattle.source_nets.proofs.SurveyLemmas.{zip_length, zip_left, row_at}
use Rattle.source_tests.specs.Found.{IsFound}

-- ---- the models of a file

abbrev IsAmong : Model → List Model → Type 0
IsAmong m ms = (k : ℕ) × (slice_get ms k ≡ Some m)

found_among : (test : Model → Bool) (ms : List Model) (m : Model) → find test ms ≡ Some m → IsAmong m ms
found_among test [] m e = cc e
found_among test (k ∷ ms) m e = by_case (test k) e (found_among test ms m)
  where
    by_case : (b : Bool) → cond b (Some k) (find test ms) ≡ Some m → (find test ms ≡ Some m → IsAmong m ms) → IsAmong m (k ∷ ms)
    by_case true e f = (0, e)
    by_case false e f = let (i, at) = f e in (suc i, at)

first_among : (ms : List Model) (m : Model) → first_model ms ≡ Some m → IsAmong m ms
first_among [] m e = cc e
first_among (k ∷ ms) m e = (0, e)

chain_among : (file : File) (n : ℕ) (top m : Model) → IsMain file top → Chain file n top m → IsAmong m file.models
chain_among file zero top m main e = subst (λ k. IsAmong k file.models) e (first_among file.models top main)
chain_among file (suc n) top m main (c, chain, p) = found_among (λ k. same_name k.name p.0) file.models m p.2

used_among : (file : File) (m : Model) → IsUsed file m → IsAmong m file.models
used_among file m (top, main, n, chain) = chain_among file n top m main chain

pub lines_at : (ms : List Model) (i : ℕ) (m : Model) → HaveLines ms → slice_get ms i ≡ Some m → AreByLine m
lines_at [] i m have e = absurd (cc e)
lines_at (k ∷ ms) zero m have e = let same : k ≡ m = cc e in subst AreByLine same (by_line_of (first_line ms) k have.0)
lines_at (k ∷ ms) (suc i) m have e = lines_at ms i m have.1 e

-- ---- the first that is found

before_all : (P : Model → Type 0) (ms : List Model) (i : ℕ) → ((k : ℕ) (m : Model) → k < i → slice_get ms k ≡ Some m → P m) → AllByRecursion P (take i ms)
before_all P ms zero h = tt
before_all P [] (suc i) h = tt
before_all P (m ∷ ms) (suc i) h = (h 0 m (omega arith) refl, before_all P ms i (λ k n l e. h (suc k) n (omega arith) e))

split_at : (ms : List Model) (i : ℕ) (m : Model) → slice_get ms i ≡ Some m → ms ≡ take i ms ++ m ∷ drop (suc i) ms
split_at [] i m e = absurd (cc e)
split_at (k ∷ ms) zero m e = let same : k ≡ m = cc e in ap (λ (x : Model). x ∷ ms) same
split_at (k ∷ ms) (suc i) m e = ap (λ (xs : List Model). k ∷ xs) (split_at ms i m e)

module _ {A : Type 0} (file : File) (test : Model → Option A) where
  -- Nothing is found in the used ones of the first models.
  abbrev pub IsNoneBefore : ℕ → Type 0
  IsNoneBefore i = (k : ℕ) (m : Model) → k < i → slice_get file.models k ≡ Some m → IsUsed file m → test m ≡ None

  pub none_at_all : (i : ℕ) → length file.models ≤ i → IsNoneBefore i → IsFound file test None
  none_at_all i past none = λ m used.
      let (k, at) = used_among file m used in
      let inside = slice_get_within file.models k m at in
      none k m (omega arith) at used

  pub none_yet : IsNoneBefore 0
  none_yet = λ k m h at used. absurd (omega arith)

  pub none_more : (i : ℕ) (m : Model) → slice_get file.models i ≡ Some m → (IsUsed file m → test m ≡ None) → IsNoneBefore i → IsNoneBefore (i + 1)
  none_more i m at here none = λ k n h at_k used.
      let below : k ≤ i = omega arith in
      elim (eq-or-lt_of_le below) [
        | inl same ↦
            let at_i : slice_get file.models i ≡ Some n = subst (λ j. slice_get file.models j ≡ Some n) same at_k in
            let one : n ≡ m = cc (at_i, at) in
            ap test one ∙ here (subst (IsUsed file) one used)
        | inr before ↦ none k n before at_k used
      ]

  pub first_found : (i : ℕ) (m : Model) (a : A) → slice_get file.models i ≡ Some m → IsUsed file m → test m ≡ Some a → IsNoneBefore i → IsFound file test (Some a)
  first_found i m a at used here none =
      record {
        before = take i file.models;
        model = m;
        after = drop (suc i) file.models;
        split = split_at file.models i m at;
        used = used;
        here = here;
        none_before = before_all (λ k. IsUsed file k → (b : A) → test k ≡ Some b → ⊥) file.models i (λ k n h at_k used_k b some. let none_k = none k n h at_k used_k in let both : None ≡ Some b = sym none_k ∙ some in cc both);
      }

-- ---- a model that was read, at its place

module _ (ms : List ReadModel) (xs : List ReadModel) (i : ℕ) (m : ReadModel) (same : xs ≡ ms) (h : i < length xs) (is : m ≡ get_or xs i m) where
  pub model_at : slice_get (map model_of ms) i ≡ Some (model_of m)
  model_at = row_at model_of ms i m (ap (λ ys. slice_get ys i) (sym same) ∙ slice_get_read xs (length xs) i m refl h is)

  pub survey_at : (R : Model → ModelSurvey → Type 0) (surveys : List ModelSurvey) (s : ModelSurvey) → AllZip R (map model_of ms) surveys → s ≡ get_or surveys i s → R (model_of m) s
  survey_at R surveys s all is_s =
      let long = zip_length R (map model_of ms) surveys all in
      let inside = slice_get_within (map model_of ms) i (model_of m) model_at in
      let there : i < length surveys = omega arith in
      zip_left R (map model_of ms) surveys i (model_of m) s all model_at (slice_get_read surveys (length surveys) i s refl there is_s)

  pub survey_within : (R : Model → ModelSurvey → Type 0) (surveys : List ModelSurvey) → AllZip R (map model_of ms) surveys → i < length surveys
  survey_within R surveys all =
      let long = zip_length R (map model_of ms) surveys all in
      let inside = slice_get_within (map model_of ms) i (model_of m) model_at in
      omega arith
