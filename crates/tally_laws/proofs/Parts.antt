-- Runs in parts.
use Rattle.std.proofs.Common.{◌≡◌, refl, sym, ap, subst, ℕ, suc, ◌+◌, ◌<◌, ◌≤◌, List, [], ◌∷◌, ◌++◌, length, map, Bool, true, false, cond, ◌⊎◌, inl, inr, Option, Some, None, ◌==◌, arith, eqb-true}
use Rattle.std.specs.Prelude.{IsSomeAnd, ◌↔◌}
use Rattle.netlist_spec.specs.Netlist.{Model, File}
use Rattle.netlist_spec.specs.Models.{main_model, init_bits}
use Rattle.netlist_spec.specs.SourceRun.{Bits, Stream, CycleStep, RunsFrom}
use Rattle.netlist_spec.specs.Values.{Values, Forced}
use Rattle.netlist_spec.specs.Runs.{Fault, faults_at, FaultyCycle, Run}
use Rattle.guard_spec.specs.Contained.{at_cycle}
use Rattle.tally_laws.specs.Parts.{RunInParts, FaultyRuns}

module _ (step : CycleStep) where
  abbrev Runs : ℕ → Bits → Stream → List Bits → List Bits → Type 0
  Runs c s xs states outs = RunsFrom step c s xs states outs

  at_another : (c d : ℕ) → c ≡ d → (s : Bits) (xs : Stream) (states outs : List Bits) → Runs c s xs states outs → Runs d s xs states outs
  at_another c d e s xs states outs r = subst (λ (n : ℕ). Runs n s xs states outs) e r

  -- a run shows the stored bits that it starts with
  starts : (c : ℕ) (s : Bits) (xs : Stream) (states outs : List Bits) → Runs c s xs states outs → (more : List Bits) × (states ≡ s ∷ more)
  starts c s [] [] outs r = absurd r
  starts c s [] (now ∷ []) [] r = ([], λ i. r i ∷ [])
  starts c s [] (now ∷ []) (y ∷ outs) r = absurd r
  starts c s [] (now ∷ k ∷ states) outs r = absurd r
  starts c s (x ∷ xs) [] outs r = absurd r
  starts c s (x ∷ xs) (now ∷ states) [] r = absurd r
  starts c s (x ∷ xs) (now ∷ states) (y ∷ outs) r = (states, λ i. r.0 i ∷ states)

  in_parts : (c : ℕ) (s : Bits) (xs ys : Stream) (states outs : List Bits) → Runs c s (xs ++ ys) states outs → RunInParts step c s xs ys states outs
  in_parts c s [] ys states outs r =
      let (more, e) = starts c s ys states outs r in
      record {
        before = [];
        now = s;
        after = more;
        shown = [];
        later = outs;
        states_in_parts = e;
        outs_in_parts = refl;
        lengths = (refl, refl);
        is_now = ap (λ (bs : List Bits). at_cycle bs 0) e;
        first = refl;
        second = at_another c (c + 0) (omega arith) s ys (s ∷ more) outs (subst (λ (bs : List Bits). Runs c s ys bs outs) e r);
      }
  in_parts c s (x ∷ xs) ys [] outs r = absurd r
  in_parts c s (x ∷ xs) ys (now ∷ states) [] r = absurd r
  in_parts c s (x ∷ xs) ys (now ∷ states) (y ∷ outs) r =
      let p = in_parts (c + 1) r.1 xs ys states outs r.3 in
      record {
        before = now ∷ p.before;
        now = p.now;
        after = p.after;
        shown = y ∷ p.shown;
        later = p.later;
        states_in_parts = λ i. now ∷ p.states_in_parts i;
        outs_in_parts = λ i. y ∷ p.outs_in_parts i;
        lengths = (ap suc p.lengths.0, ap suc p.lengths.1);
        is_now = p.is_now;
        first = (r.0, r.1, r.2, p.first);
        second = at_another (c + 1 + length xs) (c + suc (length xs)) (omega arith) p.now ys (p.now ∷ p.after) p.later p.second;
      }

  joined : (c : ℕ) (s now : Bits) (xs ys : Stream) (states more outs later : List Bits) → Runs c s xs (states ++ now ∷ []) outs → Runs (c + length xs) now ys more later → Runs c s (xs ++ ys) (states ++ more) (outs ++ later)
  joined c s now [] ys [] more [] later r q =
      subst (λ (n : Bits). Runs c n ys more later) (let e : now ≡ s = r in e) (at_another (c + 0) c (omega arith) now ys more later q)
  joined c s now [] ys [] more (y ∷ outs) later r q = absurd r
  joined c s now [] ys (k ∷ []) more outs later r q = absurd r
  joined c s now [] ys (k ∷ j ∷ states) more outs later r q = absurd r
  joined c s now (x ∷ []) ys [] more [] later r q = absurd r
  joined c s now (x ∷ []) ys [] more (y ∷ outs) later r q = absurd r.3
  joined c s now (x ∷ z ∷ xs) ys [] more [] later r q = absurd r
  joined c s now (x ∷ z ∷ xs) ys [] more (y ∷ outs) later r q = absurd r.3
  joined c s now (x ∷ xs) ys (k ∷ states) more [] later r q = absurd r
  joined c s now (x ∷ xs) ys (k ∷ states) more (y ∷ outs) later r q =
      (r.0, r.1, r.2, joined (c + 1) r.1 now xs ys states more outs later r.3 (at_another (c + suc (length xs)) (c + 1 + length xs) (omega arith) now ys more later q))

append_one : {A : Type 0} (xs : List A) (a b : A) → (xs ++ a ∷ []) ++ b ∷ [] ≡ xs ++ (a ∷ b ∷ [])
append_one [] a b = refl
append_one (x ∷ xs) a b = λ i. x ∷ append_one xs a b i

-- a run whose cycles are also those of another step
over : (step other : CycleStep) (c : ℕ) (s : Bits) (xs : Stream) (states outs : List Bits) → ((d : ℕ) → c ≤ d → d < c + length xs → (x s y next : Bits) → step d x s y next → other d x s y next)
    → RunsFrom step c s xs states outs → RunsFrom other c s xs states outs
over step other c s [] [] outs f r = absurd r
over step other c s [] (now ∷ []) [] f r = r
over step other c s [] (now ∷ []) (y ∷ outs) f r = absurd r
over step other c s [] (now ∷ k ∷ states) outs f r = absurd r
over step other c s (x ∷ xs) [] outs f r = absurd r
over step other c s (x ∷ xs) (now ∷ states) [] f r = absurd r
over step other c s (x ∷ xs) (now ∷ states) (y ∷ outs) f r =
    (r.0, r.1, f c (omega arith) (omega arith) x s y r.1 r.2, over step other (c + 1) r.1 xs states outs (λ d low high. f d (omega arith) (omega arith)) r.3)

-- no entry is for another cycle
none_at : (c : ℕ) (fault : Fault) → (fault.cycle ≡ c → ⊥) → faults_at c (fault ∷ []) ≡ []
none_at c fault h = by_case (fault.cycle == c) refl
  where
    by_case : (b : Bool) → (fault.cycle == c) ≡ b → cond b (fault ∷ []) [] ≡ []
    by_case true e = absurd (h (eqb-true fault.cycle c e))
    by_case false e = refl

module _ (m : Model) where
  with_faults : (faults others : List Fault) (c : ℕ) → faults_at c faults ≡ faults_at c others → (x s y next : Bits) → FaultyCycle m faults c x s y next → FaultyCycle m others c x s y next
  with_faults faults others c e x s y next r =
      record { values = r.values; agrees = subst (λ (f : Forced). Values m s x f r.values) (ap (λ (entries : List Fault). map (λ a. (a.cell, a.bit)) entries) e) r.agrees; outputs = r.outputs; stores = r.stores }

  pub parts : (faults : List Fault) (c : ℕ) (s : Bits) (xs ys : Stream) (states outs : List Bits) → FaultyRuns m faults c s (xs ++ ys) states outs → RunInParts (λ c x s y next. FaultyCycle m faults c x s y next) c s xs ys states outs
  parts faults c s xs ys states outs r = in_parts (λ c x s y next. FaultyCycle m faults c x s y next) c s xs ys states outs r

  pub run_of_parts : (faults : List Fault) (c : ℕ) (s now : Bits) (xs ys : Stream) (states more outs later : List Bits) → FaultyRuns m faults c s xs (states ++ now ∷ []) outs → FaultyRuns m faults (c + length xs) now ys more later
      → FaultyRuns m faults c s (xs ++ ys) (states ++ more) (outs ++ later)
  run_of_parts faults c s now xs ys states more outs later r q = joined (λ c x s y next. FaultyCycle m faults c x s y next) c s now xs ys states more outs later r q

  pub grown : (faults : List Fault) (c : ℕ) (s now x y next : Bits) (xs : Stream) (states outs : List Bits) → FaultyRuns m faults c s xs (states ++ now ∷ []) outs → FaultyCycle m faults (c + length xs) x now y next
      → FaultyRuns m faults c s (xs ++ x ∷ []) ((states ++ now ∷ []) ++ next ∷ []) (outs ++ y ∷ [])
  grown faults c s now x y next xs states outs r q =
      subst (λ (bs : List Bits). FaultyRuns m faults c s (xs ++ x ∷ []) bs (outs ++ y ∷ [])) (sym (append_one states now next))
      (run_of_parts faults c s now xs (x ∷ []) states (now ∷ next ∷ []) outs (y ∷ []) r (refl, next, q, refl))

  pub elsewhere : (fault : Fault) (c : ℕ) (s : Bits) (xs : Stream) (states outs : List Bits) → (fault.cycle < c) ⊎ (c + length xs ≤ fault.cycle) → FaultyRuns m [] c s xs states outs ↔ FaultyRuns m (fault ∷ []) c s xs states outs
  elsewhere fault c s xs states outs h = (
    (λ r. over (λ c x s y next. FaultyCycle m [] c x s y next) (λ c x s y next. FaultyCycle m (fault ∷ []) c x s y next) c s xs states outs (λ d low high x now y next q. with_faults [] (fault ∷ []) d (sym (off h d low high)) x now y next q) r),
    λ r. over (λ c x s y next. FaultyCycle m (fault ∷ []) c x s y next) (λ c x s y next. FaultyCycle m [] c x s y next) c s xs states outs (λ d low high x now y next q. with_faults (fault ∷ []) [] d (off h d low high) x now y next q) r,
  )
    where
      off : (fault.cycle < c) ⊎ (c + length xs ≤ fault.cycle) → (d : ℕ) → c ≤ d → d < c + length xs → faults_at d (fault ∷ []) ≡ []
      off (inl before) d low high = none_at d fault (λ e. absurd (omega arith))
      off (inr after) d low high = none_at d fault (λ e. absurd (omega arith))

pub to_file : (g : File) (m : Model) (faults : List Fault) → main_model g ≡ Some m → (xs : Stream) (stored zs : List Bits) → FaultyRuns m faults 0 (init_bits m) xs stored zs → Run g xs faults stored zs
to_file g m faults e xs stored zs r = subst (λ o. IsSomeAnd o (λ m. RunsFrom (λ c x s y next. FaultyCycle m faults c x s y next) 0 (init_bits m) xs stored zs)) (sym e) r

pub by_parts : (g : File) (m : Model) (fault : Fault) (now met : Bits) (before between after : Stream) (stored faulty rest zs shown later : List Bits)
    → main_model g ≡ Some m → fault.cycle ≡ length before → 1 ≤ length between
    → FaultyRuns m [] 0 (init_bits m) before (stored ++ now ∷ []) zs → FaultyRuns m (fault ∷ []) (length before) now between (faulty ++ met ∷ []) shown → FaultyRuns m [] (length before + length between) met after rest later
    → Run g (before ++ (between ++ after)) (fault ∷ []) (stored ++ (faulty ++ rest)) (zs ++ (shown ++ later))
by_parts g m fault now met before between after stored faulty rest zs shown later is_main at some first middle last =
    let one = (elsewhere m fault 0 (init_bits m) before (stored ++ now ∷ []) zs (inr (omega arith))).0 first in
    let three = (elsewhere m fault (length before + length between) met after rest later (inl (omega arith))).0 last in
    let two = run_of_parts m (fault ∷ []) (length before) now met between after faulty rest shown later middle three in
    to_file g m (fault ∷ []) is_main (before ++ (between ++ after)) (stored ++ (faulty ++ rest)) (zs ++ (shown ++ later))
    (run_of_parts m (fault ∷ []) 0 (init_bits m) now before (between ++ after) stored (faulty ++ rest) zs (shown ++ later) one
    (subst (λ (n : ℕ). FaultyRuns m (fault ∷ []) n now (between ++ after) (faulty ++ rest) (shown ++ later)) (let e : length before ≡ 0 + length before = omega arith in e) two))

pub late : (g : File) (fault : Fault) (xs : Stream) (stored zs : List Bits) → length xs ≤ fault.cycle → Run g xs [] stored zs → Run g xs (fault ∷ []) stored zs
late g fault xs stored zs h r = of_main (main_model g) r
  where
    of_main : (o : Option Model) → IsSomeAnd o (λ m. RunsFrom (λ c x s y next. FaultyCycle m [] c x s y next) 0 (init_bits m) xs stored zs) → IsSomeAnd o (λ m. RunsFrom (λ c x s y next. FaultyCycle m (fault ∷ []) c x s y next) 0 (init_bits m) xs stored zs)
    of_main None r = r
    of_main (Some m) r = (elsewhere m fault 0 (init_bits m) xs stored zs (inr (omega arith))).0 r
