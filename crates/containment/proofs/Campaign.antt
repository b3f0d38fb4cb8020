-- A campaign over a contained guard finds nothing wrong.
use Rattle.std.proofs.Common.{◌≡◌, refl, sym, ◌∙◌, ap, subst, ℕ, suc, ◌+◌, ◌<◌, ◌≤◌, List, [], ◌∷◌, length, map, Bool, true, false, cond, ◌⊎◌, inl, inr, Option, Some, arith, count_by, ◌++◌, ◌==◌, length-append}
use Rattle.std.specs.Prelude.{IsSomeAnd}
use Rattle.std.proofs.lemmas.List.{length-map}
use Rattle.std.proofs.lemmas.List.Recursion.{is_count_by}
use Rattle.std.specs.List.{AllByRecursion, AllZip}
use Rattle.netlist_spec.specs.Netlist.{Name, Model, File}
use Rattle.netlist_spec.specs.Placed.{port_names}
use Rattle.guard_spec.specs.Shaped.{HasShape, check_outputs, rail_outputs}
use Rattle.guard_spec.specs.Containment.{ContainsFaults, IsGuardFor}
use Rattle.netlist_spec.specs.Covers.{Library}
use Rattle.netlist_spec.specs.Models.{main_model, init_bits, output_nets}
use Rattle.netlist_spec.specs.SourceRun.{Bits, Stream, CycleStep, RunsFrom, SourceCycle, SourceRun}
use Rattle.netlist_spec.specs.Ordered.{cell_nets}
use Rattle.netlist_spec.specs.Runs.{Fault, FaultyCycle, Run, IsWithin, IsMoving}
use Rattle.guard_spec.specs.Codes.{Code, IsCode, data_places, Mode, detect, correct}
use Rattle.guard_spec.specs.Words.{Settings, Layout, IsPartition}
use Rattle.guard_spec.specs.Contained.{at_cycle, IsDetected, Detects, Corrects}
use Rattle.guard_spec.specs.Tally.{right, alarmed, decoded, wrong, Outcome, outcome_of, Tally, is_same_outcome, single_faults, IsTallyBeside, IsTally, IsMachineTally}
use Rattle.netlist_spec.specs.Gates.{Machine, GateStep}
use Rattle.netlist_spec.specs.Elaborated.{IsMachineOf}
use Rattle.containment.proofs.Text.{runs_by}
use Rattle.containment.specs.Outcomes.{HaveOutputs, IsClean}
use Rattle.containment.proofs.AllCycles.{each_cycle}
use Rattle.containment.proofs.Outcomes.{detected_outcome, corrected_outcome}
use Rattle.containment.proofs.Layouts.{words_are_partitions}

-- Sizes of runs.

run_length : (step : CycleStep) (c : ℕ) (s : Bits) (xs : Stream) (states outs : List Bits) → RunsFrom step c s xs states outs → length outs ≡ length xs
run_length step c s [] [] outs r = absurd r
run_length step c s [] (now ∷ []) [] r = refl
run_length step c s [] (now ∷ []) (y ∷ outs) r = absurd r
run_length step c s [] (now ∷ k ∷ states) outs r = absurd r
run_length step c s (x ∷ xs) [] outs r = absurd r
run_length step c s (x ∷ xs) (now ∷ states) [] r = absurd r
run_length step c s (x ∷ xs) (now ∷ states) (y ∷ outs) r = ap suc (run_length step (c + 1) r.1 xs states outs r.3)

on_model : (o : Option Model) (m : Model) (P : Model → Type 0) → o ≡ Some m → IsSomeAnd o P → P m
on_model o m P e r = subst (λ o. IsSomeAnd o P) e r

module _ (source : File) (library : Library) (m : Model) (is_main : main_model source ≡ Some m) (xs : Stream) (states ys : List Bits) (source_run : SourceRun source library xs states ys) where
  of_model : RunsFrom (λ c x s y next. SourceCycle source library m x s y next) 0 (init_bits m) xs states ys
  of_model = on_model (main_model source) m (λ m. RunsFrom (λ c x s y next. SourceCycle source library m x s y next) 0 (init_bits m) xs states ys) is_main source_run

  pub source_length : length ys ≡ length xs
  source_length = run_length (λ c x s y next. SourceCycle source library m x s y next) 0 (init_bits m) xs states ys of_model

  pub source_outputs : (c : ℕ) → c < length xs → length (at_cycle ys c) ≡ length (output_nets m)
  source_outputs c h =
      let step = each_cycle (λ c x s y next. SourceCycle source library m x s y next) (init_bits m) xs states ys of_model c h in
      sym (ap (λ (bs : Bits). length bs) step.outputs) ∙ length-map (output_nets m) step.values

module _ (g : File) (m : Model) (is_main : main_model g ≡ Some m) (xs : Stream) (faults : List Fault) (stored zs : List Bits) (run : Run g xs faults stored zs) where
  of_guard : RunsFrom (λ c x s y next. FaultyCycle m faults c x s y next) 0 (init_bits m) xs stored zs
  of_guard = on_model (main_model g) m (λ m. RunsFrom (λ c x s y next. FaultyCycle m faults c x s y next) 0 (init_bits m) xs stored zs) is_main run

  pub guard_length : length zs ≡ length xs
  guard_length = run_length (λ c x s y next. FaultyCycle m faults c x s y next) 0 (init_bits m) xs stored zs of_guard

  pub guard_outputs : (c : ℕ) → c < length xs → length (at_cycle zs c) ≡ length (output_nets m)
  guard_outputs c h =
      let step = each_cycle (λ c x s y next. FaultyCycle m faults c x s y next) (init_bits m) xs stored zs of_guard c h in
      sym (ap (λ (bs : Bits). length bs) step.outputs) ∙ length-map (output_nets m) step.values

-- Counts of outcomes.

abbrev times : (Outcome → Bool) → List Outcome → ℕ
times p [] = 0
times p (o ∷ os) = cond (p o) 1 0 + times p os

times_count : (p : Outcome → Bool) (os : List Outcome) → times p os ≡ count_by p os
times_count p os = is_count_by (times p) p refl (λ o rest. step (p o) (times p rest)) os
  where
    step : (b : Bool) (n : ℕ) → cond b 1 0 + n ≡ cond b (1 + n) n
    step true n = refl
    step false n = omega arith

no_times : (p : Outcome → Bool) (os : List Outcome) → AllByRecursion (λ o. p o ≡ false) os → times p os ≡ 0
no_times p [] a = refl
no_times p (o ∷ os) a = left_out (p o) (times p os) a.0 (no_times p os a.1)
  where
    left_out : (b : Bool) (n : ℕ) → b ≡ false → n ≡ 0 → cond b 1 0 + n ≡ 0
    left_out true n e z = cc e
    left_out false n e z = omega arith

none_of : (which : Outcome) (os : List Outcome) → AllByRecursion (λ o. is_same_outcome which o ≡ false) os → count_by (is_same_outcome which) os ≡ 0
none_of which os a = sym (times_count (is_same_outcome which) os) ∙ no_times (is_same_outcome which) os a

each_outcome : {A : Type 0} (R : A → Outcome → Type 0) (P : Outcome → Type 0) → ((a : A) (o : Outcome) → R a o → P o) → (xs : List A) (os : List Outcome) → AllZip R xs os → AllByRecursion P os
each_outcome R P f [] [] z = tt
each_outcome R P f [] (o ∷ os) z = absurd z
each_outcome R P f (a ∷ xs) [] z = absurd z
each_outcome R P f (a ∷ xs) (o ∷ os) z = (f a o z.0, each_outcome R P f xs os z.1)

pub one_is_within : (t : ℕ) → 1 ≤ t → (a : Fault) → IsWithin t (a ∷ [])
one_is_within t some a = record { cycle = a.cycle; one_cycle = (refl, tt); few = some }

pub one_is_moving : (t : ℕ) → 1 ≤ t → (a : Fault) → IsMoving t (a ∷ [])
one_is_moving t some a c = by_test (a.cycle == c)
  where
    by_test : (b : Bool) → length (cond b (a ∷ []) []) ≤ t
    by_test true = some
    by_test false = omega arith

same_model : (o : Option Model) (m k : Model) → o ≡ Some m → o ≡ Some k → m ≡ k
same_model o m k e f = let both : Some m ≡ Some k = sym e ∙ f in cc both

-- two kinds of outcomes do not occur
join : {A : Type 0} {o x a b : A} → o ≡ x → (x ≡ a) ⊎ (x ≡ b) → (o ≡ a) ⊎ (o ≡ b)
join e (inl f) = inl (e ∙ f)
join e (inr f) = inr (e ∙ f)

right_or_alarmed : (which : Outcome) → is_same_outcome which right ≡ false → is_same_outcome which alarmed ≡ false → (o : Outcome) → (o ≡ right) ⊎ (o ≡ alarmed) → is_same_outcome which o ≡ false
right_or_alarmed which a b o (inl e) = ap (is_same_outcome which) e ∙ a
right_or_alarmed which a b o (inr e) = ap (is_same_outcome which) e ∙ b

right_or_decoded : (which : Outcome) → is_same_outcome which right ≡ false → is_same_outcome which decoded ≡ false → (o : Outcome) → (o ≡ right) ⊎ (o ≡ decoded) → is_same_outcome which o ≡ false
right_or_decoded which a b o (inl e) = ap (is_same_outcome which) e ∙ a
right_or_decoded which a b o (inr e) = ap (is_same_outcome which) e ∙ b

module _ (file source : File) (library : Library) (m gm : Model) (is_source : main_model source ≡ Some m) (is_guard : main_model file ≡ Some gm) (room : length (output_nets m) ≤ length (output_nets gm)) (code : Code) (l : Layout) (t : ℕ) (allowed : List Fault → Type 0) (alone : (a : Fault) → allowed (a ∷ [])) (xs : Stream) (states ys : List Bits) (source_run : SourceRun source library xs states ys) (cycle : ℕ) (tally : Tally) where
  sizes : (a : Fault) (stored zs : List Bits) → Run file xs (a ∷ []) stored zs → HaveOutputs (length (output_nets m)) ys zs
  sizes a stored zs run =
      let same = source_length source library m is_source xs states ys source_run in (
        guard_length file gm is_guard xs (a ∷ []) stored zs run ∙ sym same,
        (λ c h.
            let inside : c < length xs = omega arith in (
              source_outputs source library m is_source xs states ys source_run c inside,
              (let e = guard_outputs file gm is_guard xs (a ∷ []) stored zs run c inside in omega arith),
            )),
      )

  abbrev Sorted : Mode → Fault → Outcome → Type 0
  Sorted mode fault o = (stored zs : List Bits) × Run file xs (fault ∷ []) stored zs × (o ≡ outcome_of code l (length (output_nets m)) mode t ys zs)

  pub detecting_tally : (k : ℕ) → IsPartition (length (output_nets m)) k l.output → Detects file source library m code l allowed → IsTallyBeside file code l (length (output_nets m)) detect t xs ys cycle tally → IsClean detect tally
  detecting_tally k words detects is_tally = (
    ap (λ (n : Tally). n.wrong) is_tally.counts ∙ none_of wrong is_tally.outcomes (each_outcome (Sorted detect) (λ o. is_same_outcome wrong o ≡ false) (λ a o r. right_or_alarmed wrong refl refl o (sorted a o r)) (single_faults cycle (cell_nets is_tally.guard_model)) is_tally.outcomes is_tally.each),
    ap (λ (n : Tally). n.decoded) is_tally.counts ∙ none_of decoded is_tally.outcomes (each_outcome (Sorted detect) (λ o. is_same_outcome decoded o ≡ false) (λ a o r. right_or_alarmed decoded refl refl o (sorted a o r)) (single_faults cycle (cell_nets is_tally.guard_model)) is_tally.outcomes is_tally.each),
  )
    where
      sorted : (a : Fault) (o : Outcome) → Sorted detect a o → (o ≡ right) ⊎ (o ≡ alarmed)
      sorted a o (stored, zs, run, is) =
          join is (detected_outcome code l (length (output_nets m)) k t words ys zs (sizes a stored zs run)
          (subst (λ (n : ℕ). IsDetected code l (length (output_nets m)) n ys zs) (sym (source_length source library m is_source xs states ys source_run)) (detects xs (a ∷ []) states ys stored zs refl (alone a) source_run run)))

  pub correcting_tally : Corrects file source library m code l t allowed → IsTallyBeside file code l (length (output_nets m)) correct t xs ys cycle tally → IsClean correct tally
  correcting_tally corrects is_tally = (
    ap (λ (n : Tally). n.wrong) is_tally.counts ∙ none_of wrong is_tally.outcomes (each_outcome (Sorted correct) (λ o. is_same_outcome wrong o ≡ false) (λ a o r. right_or_decoded wrong refl refl o (sorted a o r)) (single_faults cycle (cell_nets is_tally.guard_model)) is_tally.outcomes is_tally.each),
    ap (λ (n : Tally). n.alarmed) is_tally.counts ∙ none_of alarmed is_tally.outcomes (each_outcome (Sorted correct) (λ o. is_same_outcome alarmed o ≡ false) (λ a o r. right_or_decoded alarmed refl refl o (sorted a o r)) (single_faults cycle (cell_nets is_tally.guard_model)) is_tally.outcomes is_tally.each),
  )
    where
      sorted : (a : Fault) (o : Outcome) → Sorted correct a o → (o ≡ right) ⊎ (o ≡ decoded)
      sorted a o (stored, zs, run, is) =
          let contained = corrects xs (a ∷ []) states ys stored zs refl (alone a) source_run run in
          let same = source_length source library m is_source xs states ys source_run in
          join is (corrected_outcome code l (length (output_nets m)) t ys zs (λ c h. contained.decoded c (omega arith)))

-- by the mode of the settings
clean_by : (mode : Mode) (file source : File) (s : Settings) (m gm : Model) (l : Layout) → main_model source ≡ Some m → main_model file ≡ Some gm → length (output_nets m) ≤ length (output_nets gm) → (k : ℕ) → IsPartition (length (output_nets m)) k l.output
    → (allowed : List Fault → Type 0) → ((a : Fault) → allowed (a ∷ [])) → ContainsFaults mode file source s m l allowed → (xs : Stream) (states ys : List Bits) → SourceRun source s.library xs states ys → (cycle : ℕ) (tally : Tally)
    → IsTallyBeside file s.code l (length (output_nets m)) mode s.bound xs ys cycle tally → IsClean mode tally
clean_by detect file source s m gm l is_source is_guard room k words allowed alone contains xs states ys source_run cycle tally sorted =
    detecting_tally file source s.library m gm is_source is_guard room s.code l s.bound allowed alone xs states ys source_run cycle tally k words contains sorted
clean_by correct file source s m gm l is_source is_guard room k words allowed alone contains xs states ys source_run cycle tally sorted =
    correcting_tally file source s.library m gm is_source is_guard room s.code l s.bound allowed alone xs states ys source_run cycle tally contains sorted

outputs_room : (g m : Model) (code : Code) (l : Layout) (rails : ℕ) → HasShape g m code l rails → length (output_nets m) ≤ length (output_nets g)
outputs_room g m code l rails shape =
    let e = ap (λ (ns : List Name). length ns) shape.outputs in
    let a = length-append (port_names m.outputs ++ check_outputs code l.output) (rail_outputs rails) in
    let b = length-append (port_names m.outputs) (check_outputs code l.output) in
    omega arith

-- The tally of a guard is clean.
pub clean_tally : (g source : File) (s : Settings) (radius : ℕ) (allowed : List Fault → Type 0) (guard : IsGuardFor g source s radius allowed) → ((a : Fault) → allowed (a ∷ [])) → IsCode s.code
    → (xs : Stream) (cycle : ℕ) (tally : Tally) → IsTally g source s guard.shaped.layout xs cycle tally → IsClean s.mode tally
clean_tally g source s radius allowed guard alone is_code xs cycle tally is_tally =
    clean_by s.mode g source s guard.shaped.source_model guard.shaped.guard_model guard.shaped.layout guard.shaped.is_source_model guard.shaped.is_guard_model
    (outputs_room guard.shaped.guard_model guard.shaped.source_model s.code guard.shaped.layout _ guard.shaped.shape)
    (data_places s.code) (words_are_partitions (data_places s.code) is_code.rows.0 (output_nets guard.shaped.source_model) s.output_words guard.shaped.layout.output guard.shaped.is_layout.output)
    allowed alone guard.contains xs is_tally.states is_tally.outs is_tally.source_run cycle tally
    (subst (λ (m : Model). IsTallyBeside g s.code guard.shaped.layout (length (output_nets m)) s.mode s.bound xs is_tally.outs cycle tally) (same_model (main_model source) is_tally.source_model guard.shaped.source_model is_tally.is_source_model guard.shaped.is_source_model) is_tally.sorted)

-- The tally beside the machine of a source is the tally beside the source.
pub tally_of_machine : (g source : File) (s : Settings) (m : Model) (machine : Machine) (l : Layout) (xs : Stream) (cycle : ℕ) (tally : Tally) → main_model source ≡ Some m → IsMachineOf source s.library m machine
    → IsMachineTally g machine s.code l s.mode s.bound xs cycle tally → IsTally g source s l xs cycle tally
tally_of_machine g source s m machine l xs cycle tally is_main means is_tally = record {
  source_model = m;
  is_source_model = is_main;
  states = is_tally.states;
  outs = is_tally.outs;
  source_run = subst (λ o. IsSomeAnd o (λ m. RunsFrom (λ c x now y next. SourceCycle source s.library m x now y next) 0 (init_bits m) xs is_tally.states is_tally.outs)) (sym is_main)
      (subst (λ (bits : Bits). RunsFrom (λ c x now y next. SourceCycle source s.library m x now y next) 0 bits xs is_tally.states is_tally.outs) means.inits
      (runs_by (λ c x now y next. GateStep machine [] x now y next) (λ c x now y next. SourceCycle source s.library m x now y next) (λ c x now y next step. (means.steps x now y next).1 step) 0 (map (λ r. r.init) machine.latches) xs is_tally.states is_tally.outs is_tally.source_run));
  sorted = subst (λ (p : ℕ). IsTallyBeside g s.code l p s.mode s.bound xs is_tally.outs cycle tally) means.outputs is_tally.sorted;
}
