-- How a run with one fault is sorted when it ends early.
use Rattle.std.proofs.Common.{◌≡◌, refl, sym, ◌∙◌, ap, ℕ, suc, ◌+◌, ◌≤◌, List, [], ◌∷◌, ◌++◌, length}
use Rattle.netlist_spec.specs.Netlist.{Model, File}
use Rattle.netlist_spec.specs.Models.{init_bits}
use Rattle.netlist_spec.specs.SourceRun.{Bits, Stream, CycleStep, RunsFrom}
use Rattle.netlist_spec.specs.Runs.{Fault, FaultyCycle, Run}
use Rattle.guard_spec.specs.Codes.{Code, Mode}
use Rattle.guard_spec.specs.Words.{Layout}
use Rattle.tally_laws.specs.Seen.{then_seen, seen, outcome_seen}
use Rattle.tally_laws.specs.Sorted.{IsSorted, IsRunInThree}
use Rattle.tally_laws.proofs.Parts.{by_parts, late}
use Rattle.tally_laws.proofs.Seen.{outcome_is_seen, outcome_by_parts}

pub run_length : (step : CycleStep) (c : ℕ) (s : Bits) (xs : Stream) (states outs : List Bits) → RunsFrom step c s xs states outs → length outs ≡ length xs
run_length step c s [] [] outs r = absurd r
run_length step c s [] (now ∷ []) [] r = refl
run_length step c s [] (now ∷ []) (y ∷ outs) r = absurd r
run_length step c s [] (now ∷ k ∷ states) outs r = absurd r
run_length step c s (x ∷ xs) [] outs r = absurd r
run_length step c s (x ∷ xs) (now ∷ states) [] r = absurd r
run_length step c s (x ∷ xs) (now ∷ states) (y ∷ outs) r = ap suc (run_length step (c + 1) r.1 xs states outs r.3)

module _ (g : File) (code : Code) (l : Layout) (p : ℕ) (mode : Mode) (t : ℕ) (fault : Fault) where
  pub sorted_by_parts : (m : Model) (before between after : Stream) (ys zs wanted shown more later : List Bits) → IsRunInThree g m fault before between after zs shown later
      → length ys ≡ length before → length wanted ≡ length between → length more ≡ length after
      → IsSorted g code l p mode t (before ++ (between ++ after)) (ys ++ (wanted ++ more)) fault (outcome_seen mode (then_seen (then_seen (seen code l p t ys zs) (seen code l p t wanted shown)) (seen code l p t more later)))
  sorted_by_parts m before between after ys zs wanted shown more later r e f h =
      let one = run_length (λ c x s y next. FaultyCycle m [] c x s y next) 0 (init_bits m) before (r.stored ++ r.now ∷ []) zs r.first in
      let two = run_length (λ c x s y next. FaultyCycle m (fault ∷ []) c x s y next) (length before) r.now between (r.faulty ++ r.met ∷ []) shown r.middle in
      let three = run_length (λ c x s y next. FaultyCycle m [] c x s y next) (length before + length between) r.met after r.rest later r.last in (
        r.stored ++ (r.faulty ++ r.rest),
        zs ++ (shown ++ later),
        by_parts g m fault r.now r.met before between after r.stored r.faulty r.rest zs shown later r.is_main r.in_cycle r.some_cycle r.first r.middle r.last,
        sym (outcome_by_parts code l p t mode ys zs wanted shown more later (one ∙ sym e) (two ∙ sym f) (three ∙ sym h)),
      )

  pub sorted_late : (xs : Stream) (stored ys zs : List Bits) → length xs ≤ fault.cycle → Run g xs [] stored zs → length zs ≡ length ys → IsSorted g code l p mode t xs ys fault (outcome_seen mode (seen code l p t ys zs))
  sorted_late xs stored ys zs h r e = (stored, zs, late g fault xs stored zs h r, sym (outcome_is_seen code l p t mode ys zs e))
