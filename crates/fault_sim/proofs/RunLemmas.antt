-- One more cycle of a run.
use Rattle.std.proofs.Common.{◌≡◌, refl, sym, ◌∙◌, subst, ℕ, suc, ◌+◌, List, [], ◌∷◌, ◌++◌, length, arith}
use Rattle.std.specs.Prelude.{IsSomeAnd}
use Rattle.netlist_spec.specs.Netlist.{Model, File}
use Rattle.netlist_spec.specs.Models.{first_model, init_bits}
use Rattle.netlist_spec.specs.SourceRun.{Bits, Stream, CycleStep, RunsFrom}
use Rattle.netlist_spec.specs.Runs.{Fault, forced_at, FaultyCycle}
use Rattle.fault_sim.specs.HasRun.{HasRun}
use Rattle.fault_sim.specs.Simulated.{CycleUnder, Simulated, Simulates}

no_states : (step : CycleStep) (c : ℕ) (s : Bits) (xs : Stream) (outs : List Bits) → RunsFrom step c s xs [] outs → ⊥
no_states step c s [] outs r = r
no_states step c s (x ∷ xs) outs r = r

more : (step : CycleStep) (c : ℕ) (s : Bits) (xs : Stream) (states outs : List Bits) (now x y after : Bits) → RunsFrom step c s xs (states ++ now ∷ []) outs → step (c + length xs) x now y after
    → RunsFrom step c s (xs ++ x ∷ []) ((states ++ now ∷ []) ++ after ∷ []) (outs ++ y ∷ [])
more step c s [] [] [] now x y after r t =
    (r, after, subst (λ (b : Bits). step c x b y after) r (subst (λ (n : ℕ). step n x now y after) (let e : c + 0 ≡ c = omega arith in e) t), refl)
more step c s [] [] (z ∷ outs) now x y after r t = absurd r
more step c s [] (k ∷ []) outs now x y after r t = absurd r
more step c s [] (k ∷ l ∷ states) outs now x y after r t = absurd r
more step c s (x' ∷ xs) [] [] now x y after r t = absurd r
more step c s (x' ∷ xs) [] (z ∷ outs) now x y after r t = absurd (no_states step (c + 1) r.1 xs outs r.3)
more step c s (x' ∷ xs) (k ∷ states) [] now x y after r t = absurd r
more step c s (x' ∷ xs) (k ∷ states) (z ∷ outs) now x y after r t =
    (r.0, r.1, r.2, more step (c + 1) r.1 xs states outs now x y after r.3 (subst (λ (n : ℕ). step n x now y after) (let e : c + suc (length xs) ≡ (c + 1) + length xs = omega arith in e) t))

on_model : (file : File) (m : Model) (faults : List Fault) (xs : Stream) (states outs : List Bits) → file.models ≡ m ∷ [] → IsSomeAnd (first_model file.models) (λ k. RunsFrom (λ c x s y next. FaultyCycle k faults c x s y next) 0 (init_bits k) xs states outs)
    → RunsFrom (λ c x s y next. FaultyCycle m faults c x s y next) 0 (init_bits m) xs states outs
on_model file m faults xs states outs e r = subst (λ (ms : List Model). IsSomeAnd (first_model ms) (λ k. RunsFrom (λ c x s y next. FaultyCycle k faults c x s y next) 0 (init_bits k) xs states outs)) e r

of_model : (file : File) (m : Model) (faults : List Fault) (xs : Stream) (states outs : List Bits) → file.models ≡ m ∷ [] → RunsFrom (λ c x s y next. FaultyCycle m faults c x s y next) 0 (init_bits m) xs states outs
    → IsSomeAnd (first_model file.models) (λ k. RunsFrom (λ c x s y next. FaultyCycle k faults c x s y next) 0 (init_bits k) xs states outs)
of_model file m faults xs states outs e r = subst (λ (ms : List Model). IsSomeAnd (first_model ms) (λ k. RunsFrom (λ c x s y next. FaultyCycle k faults c x s y next) 0 (init_bits k) xs states outs)) (sym e) r

pub first_of_run : (file : File) (s : Simulated) → Simulates file s → (faults : List Fault) → s.stored ≡ s.inits → HasRun file faults [] [] s.stored
first_of_run file s simulates faults e =
    record { states = []; is_run = of_model file simulates.ordered.model faults [] (s.stored ∷ []) [] simulates.ordered.one_model (e ∙ simulates.model.inits) }

pub further_in_run : (file : File) (s : Simulated) (simulates : Simulates file s) (faults : List Fault) (xs : Stream) (outs : List Bits) (x y after : Bits) → HasRun file faults xs outs s.stored
    → CycleUnder simulates.ordered.model (forced_at (length xs) faults) x s.stored y after → HasRun file faults (xs ++ x ∷ []) (outs ++ y ∷ []) after
further_in_run file s simulates faults xs outs x y after h cycle =
    let m = simulates.ordered.model in
    let one = simulates.ordered.one_model in
    let here : FaultyCycle m faults (length xs) x s.stored y after = record { values = cycle.values; agrees = cycle.agrees; outputs = cycle.outputs; stores = cycle.stores } in
    record {
      states = h.states ++ s.stored ∷ [];
      is_run = of_model file m faults (xs ++ x ∷ []) ((h.states ++ s.stored ∷ []) ++ after ∷ []) (outs ++ y ∷ []) one
          (more (λ c x s y next. FaultyCycle m faults c x s y next) 0 (init_bits m) xs h.states outs s.stored x y after (on_model file m faults xs (h.states ++ s.stored ∷ []) outs one h.is_run)
          (subst (λ (n : ℕ). FaultyCycle m faults n x s.stored y after) (let e : length xs ≡ 0 + length xs = omega arith in e) here));
    }
