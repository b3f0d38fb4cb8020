-- The counts of a tally.
use Rattle.std.proofs.Common.{◌≡◌, refl, sym, ◌∙◌, ap, subst, ℕ, suc, ◌+◌, ◌*◌, ◌≤◌, List, [], ◌∷◌, ◌++◌, length, Bool, true, false, cond, Option, Some, count_by, arith}
use Rattle.std.specs.Prelude.{IsTrue}
use Rattle.std.proofs.lemmas.List.Recursion.{is_count_by}
use Rattle.std.specs.List.{AllZip}
use Rattle.netlist_spec.specs.Netlist.{Name, Model, File}
use Rattle.netlist_spec.specs.Models.{main_model, output_nets}
use Rattle.netlist_spec.specs.SourceRun.{Bits, Stream, SourceRun}
use Rattle.netlist_spec.specs.Ordered.{IsOrdered, cell_nets}
use Rattle.netlist_spec.specs.Runs.{Fault, Run, IsWithin}
use Rattle.guard_spec.specs.Codes.{Code, Mode, detect, correct}
use Rattle.guard_spec.specs.Words.{Settings, Layout}
use Rattle.guard_spec.specs.Containment.{ContainsFaults}
use Rattle.guard_spec.specs.Tally.{Outcome, right, alarmed, decoded, wrong, is_same_outcome, Tally, tally_of, single_faults, outcome_of, IsTallyBeside}
use Rattle.netlist_spec.proofs.OneRun.{one_run}
use Rattle.containment.specs.Outcomes.{IsClean}
use Rattle.containment.proofs.Campaign.{one_is_within, detecting_tally, correcting_tally}
use Rattle.tally_laws.specs.Counts.{counted, total, IsPair}

pub same_is : (a b : Outcome) → IsTrue (is_same_outcome a b) → a ≡ b
same_is right right h = refl
same_is right b h = cc h
same_is alarmed alarmed h = refl
same_is alarmed b h = cc h
same_is decoded decoded h = refl
same_is decoded b h = cc h
same_is wrong wrong h = refl
same_is wrong b h = cc h

same_self : (a : Outcome) → IsTrue (is_same_outcome a a)
same_self right = refl
same_self alarmed = refl
same_self decoded = refl
same_self wrong = refl

pub is_same : (a b : Outcome) → a ≡ b → IsTrue (is_same_outcome a b)
is_same a b e = subst (λ x. IsTrue (is_same_outcome a x)) e (same_self a)

-- ---- counts by recursion

abbrev times : (Outcome → Bool) → List Outcome → ℕ
times p [] = 0
times p (o ∷ os) = cond (p o) 1 0 + times p os

times_count : (p : Outcome → Bool) (os : List Outcome) → times p os ≡ count_by p os
times_count p os = is_count_by (times p) p refl (λ o rest. step (p o) (times p rest)) os
  where
    step : (b : Bool) (n : ℕ) → cond b 1 0 + n ≡ cond b (1 + n) n
    step true n = refl
    step false n = omega arith

times_more : (p : Outcome → Bool) (os : List Outcome) (o : Outcome) → times p (os ++ o ∷ []) ≡ times p os + cond (p o) 1 0
times_more p [] o = omega arith
times_more p (k ∷ os) o = let e = times_more p os o in omega arith

count_more : (p : Outcome → Bool) (os : List Outcome) (o : Outcome) → count_by p (os ++ o ∷ []) ≡ count_by p os + cond (p o) 1 0
count_more p os o = sym (times_count p (os ++ o ∷ [])) ∙ (times_more p os o ∙ ap (λ n. n + cond (p o) 1 0) (times_count p os))

not_counted : (p : Outcome → Bool) (os : List Outcome) (o : Outcome) → p o ≡ false → count_by p (os ++ o ∷ []) ≡ count_by p os
not_counted p os o e = count_more p os o ∙ (ap (λ (b : Bool). count_by p os + cond b 1 0) e ∙ add_none (count_by p os))
  where
    add_none : (n : ℕ) → n + 0 ≡ n
    add_none n = omega arith

is_counted : (p : Outcome → Bool) (os : List Outcome) (o : Outcome) → p o ≡ true → count_by p (os ++ o ∷ []) ≡ count_by p os + 1
is_counted p os o e = count_more p os o ∙ ap (λ (b : Bool). count_by p os + cond b 1 0) e

pub one_more : (os : List Outcome) (o : Outcome) → tally_of (os ++ o ∷ []) ≡ counted (tally_of os) o
one_more os right = λ i. record { right = is_counted (is_same_outcome right) os right refl i; alarmed = not_counted (is_same_outcome alarmed) os right refl i; decoded = not_counted (is_same_outcome decoded) os right refl i; wrong = not_counted (is_same_outcome wrong) os right refl i }
one_more os alarmed = λ i. record { right = not_counted (is_same_outcome right) os alarmed refl i; alarmed = is_counted (is_same_outcome alarmed) os alarmed refl i; decoded = not_counted (is_same_outcome decoded) os alarmed refl i; wrong = not_counted (is_same_outcome wrong) os alarmed refl i }
one_more os decoded = λ i. record { right = not_counted (is_same_outcome right) os decoded refl i; alarmed = not_counted (is_same_outcome alarmed) os decoded refl i; decoded = is_counted (is_same_outcome decoded) os decoded refl i; wrong = not_counted (is_same_outcome wrong) os decoded refl i }
one_more os wrong = λ i. record { right = not_counted (is_same_outcome right) os wrong refl i; alarmed = not_counted (is_same_outcome alarmed) os wrong refl i; decoded = not_counted (is_same_outcome decoded) os wrong refl i; wrong = is_counted (is_same_outcome wrong) os wrong refl i }

-- each outcome is one of the four
in_one_place : (o : Outcome) (r a d w n : ℕ) → r + a + d + w ≡ n
    → (cond (is_same_outcome right o) 1 0 + r) + (cond (is_same_outcome alarmed o) 1 0 + a) + (cond (is_same_outcome decoded o) 1 0 + d) + (cond (is_same_outcome wrong o) 1 0 + w) ≡ suc n
in_one_place right r a d w n e = omega arith
in_one_place alarmed r a d w n e = omega arith
in_one_place decoded r a d w n e = omega arith
in_one_place wrong r a d w n e = omega arith

all_times : (os : List Outcome) → times (is_same_outcome right) os + times (is_same_outcome alarmed) os + times (is_same_outcome decoded) os + times (is_same_outcome wrong) os ≡ length os
all_times [] = omega arith
all_times (o ∷ os) = in_one_place o (times (is_same_outcome right) os) (times (is_same_outcome alarmed) os) (times (is_same_outcome decoded) os) (times (is_same_outcome wrong) os) (length os) (all_times os)

pub add_up : (os : List Outcome) → total (tally_of os) ≡ length os
add_up os =
    (λ i. sym (times_count (is_same_outcome right) os) i + sym (times_count (is_same_outcome alarmed) os) i + sym (times_count (is_same_outcome decoded) os) i + sym (times_count (is_same_outcome wrong) os) i)
    ∙ all_times os

-- ---- two runs for each cell

as_long : {A B : Type 0} (R : A → B → Type 0) (xs : List A) (ys : List B) → AllZip R xs ys → length ys ≡ length xs
as_long R [] [] z = refl
as_long R [] (y ∷ ys) z = absurd z
as_long R (x ∷ xs) [] z = absurd z
as_long R (x ∷ xs) (y ∷ ys) z = ap suc (as_long R xs ys z.1)

two_each : (cycle : ℕ) (cells : List Name) → length (single_faults cycle cells) ≡ 2 * length cells
two_each cycle [] = refl
two_each cycle (n ∷ cells) = let e = two_each cycle cells in omega arith

same_model : (o : Option Model) (m k : Model) → o ≡ Some m → o ≡ Some k → m ≡ k
same_model o m k e f = let both : Some m ≡ Some k = sym e ∙ f in cc both

module _ (g : File) (code : Code) (l : Layout) (p : ℕ) (mode : Mode) (t : ℕ) (xs : Stream) (ys : List Bits) (cycle : ℕ) where
  abbrev Sorted : Fault → Outcome → Type 0
  Sorted fault o = (stored zs : List Bits) × Run g xs (fault ∷ []) stored zs × (o ≡ outcome_of code l p mode t ys zs)

  pub all_cells : (m : Model) (tally : Tally) → main_model g ≡ Some m → IsTallyBeside g code l p mode t xs ys cycle tally → total tally ≡ 2 * length (cell_nets m)
  all_cells m tally e is_tally =
      ap total is_tally.counts
      ∙ (add_up is_tally.outcomes
      ∙ (as_long Sorted (single_faults cycle (cell_nets is_tally.guard_model)) is_tally.outcomes is_tally.each
      ∙ (two_each cycle (cell_nets is_tally.guard_model) ∙ ap (λ (m : Model). 2 * length (cell_nets m)) (same_model (main_model g) is_tally.guard_model m is_tally.is_guard_model e))))

  module _ (ordered : IsOrdered g) where
    one_outcome : (fault : Fault) (o k : Outcome) → Sorted fault o → Sorted fault k → o ≡ k
    one_outcome fault o k (stored, zs, run, e) (other, ws, again, f) =
        let same = one_run g ordered xs (fault ∷ []) stored zs other ws run again in
        e ∙ (ap (outcome_of code l p mode t ys) same.1 ∙ sym f)

    one_list : (faults : List Fault) (os ks : List Outcome) → AllZip Sorted faults os → AllZip Sorted faults ks → os ≡ ks
    one_list [] [] [] z w = refl
    one_list [] [] (k ∷ ks) z w = absurd w
    one_list [] (o ∷ os) ks z w = absurd z
    one_list (a ∷ faults) [] ks z w = absurd z
    one_list (a ∷ faults) (o ∷ os) [] z w = absurd w
    one_list (a ∷ faults) (o ∷ os) (k ∷ ks) z w = λ i. one_outcome a o k z.0 w.0 i ∷ one_list faults os ks z.1 w.1 i

    pub one_tally : (tally other : Tally) → IsTallyBeside g code l p mode t xs ys cycle tally → IsTallyBeside g code l p mode t xs ys cycle other → tally ≡ other
    one_tally tally other a b =
        let same = same_model (main_model g) a.guard_model b.guard_model a.is_guard_model b.is_guard_model in
        a.counts
        ∙ (ap tally_of (one_list (single_faults cycle (cell_nets b.guard_model)) a.outcomes b.outcomes (subst (λ (m : Model). AllZip Sorted (single_faults cycle (cell_nets m)) a.outcomes) same a.each) b.each)
        ∙ sym b.counts)

-- ---- contained faults

pub clean : (mode : Mode) (g source : File) (s : Settings) (m gm : Model) (k few : ℕ) (l : Layout) (xs : Stream) (states ys : List Bits) (cycle : ℕ) (tally : Tally)
    → IsPair g source m gm k l → 1 ≤ few → ContainsFaults mode g source s m l (IsWithin few) → SourceRun source s.library xs states ys
    → IsTallyBeside g s.code l (length (output_nets m)) mode s.bound xs ys cycle tally → IsClean mode tally
clean detect g source s m gm k few l xs states ys cycle tally pair some contains run sorted =
    detecting_tally g source s.library m gm pair.is_source_model pair.is_guard_model pair.room s.code l s.bound (IsWithin few) (one_is_within few some) xs states ys run cycle tally k pair.words contains sorted
clean correct g source s m gm k few l xs states ys cycle tally pair some contains run sorted =
    correcting_tally g source s.library m gm pair.is_source_model pair.is_guard_model pair.room s.code l s.bound (IsWithin few) (one_is_within few some) xs states ys run cycle tally contains sorted
