-- Sorting one fault beside the free run, cycle by cycle.
use Rattle.std.proofs.Common.{◌≡◌, sym, ◌∙◌, ap, subst, ℕ, ◌+◌, ◌≤◌, List, [], ◌∷◌, ◌++◌, length, take, drop, Some, inr, arith, length-append, length-drop, length-take-le, take-append-drop, get_or-append-add}
use Rattle.std.specs.Prelude.{IsSomeAnd, ◌-◌}
use Rattle.std.proofs.Math.Seq.{take-append_seam, drop-append_seam}
use Rattle.netlist_spec.specs.Netlist.{Model, File}
use Rattle.netlist_spec.specs.Models.{main_model, init_bits}
use Rattle.netlist_spec.specs.SourceRun.{Bits, Stream, RunsFrom}
use Rattle.netlist_spec.specs.Runs.{Fault, FaultyCycle, FreeRun}
use Rattle.guard_spec.specs.Codes.{Code, Mode}
use Rattle.guard_spec.specs.Words.{Layout}
use Rattle.guard_spec.specs.Contained.{at_cycle}
use Rattle.guard_spec.specs.Tally.{Outcome}
use Rattle.tally_laws.specs.Parts.{FaultyRuns}
use Rattle.tally_laws.specs.Seen.{then_seen, seen, outcome_seen}
use Rattle.tally_laws.specs.Sorted.{IsSorted}
use Rattle.tally_laws.specs.EarlyEnd.{EarlyEndsAreSorted, WholeRunsAreSorted}
use Rattle.tally_laws.proofs.Parts.{parts, run_of_parts, elsewhere, to_file}
use Rattle.tally_laws.proofs.Seen.{outcome_is_seen, seen_parts}
use Rattle.tally_laws.proofs.Sorted.{run_length, sorted_by_parts}

take_parts : (xs shown later : List Bits) (c : ℕ) → xs ≡ shown ++ later → length shown ≡ c → (take c xs ≡ shown) × (drop c xs ≡ later)
take_parts xs shown later c e f = (
  (λ i. take (sym f i) (e i)) ∙ take-append_seam shown later,
  (λ i. drop (sym f i) (e i)) ∙ drop-append_seam shown later,
)

pub of_file : (g : File) (m : Model) (xs : Stream) (stored zs : List Bits) → main_model g ≡ Some m → FreeRun g xs stored zs → FaultyRuns m [] 0 (init_bits m) xs stored zs
of_file g m xs stored zs e r = subst (λ o. IsSomeAnd o (λ m. RunsFrom (λ c x s y next. FaultyCycle m [] c x s y next) 0 (init_bits m) xs stored zs)) e r

-- the free run in two parts, with the stored bits between them
pub record FreeParts (m : Model) (c : ℕ) (s : Bits) (k : ℕ) (xs : Stream) (stored zs : List Bits) : Type 0 where
  pub before : List Bits
  pub after : List Bits
  pub in_parts : stored ≡ before ++ at_cycle stored k ∷ after
  pub long : length before ≡ k
  pub first : FaultyRuns m [] c s (take k xs) (before ++ at_cycle stored k ∷ []) (take k zs)
  pub second : FaultyRuns m [] (c + k) (at_cycle stored k) (drop k xs) (at_cycle stored k ∷ after) (drop k zs)

pub free_parts : (m : Model) (c : ℕ) (s : Bits) (k : ℕ) (xs : Stream) (stored zs : List Bits) → k ≤ length xs → FaultyRuns m [] c s xs stored zs → FreeParts m c s k xs stored zs
free_parts m c s k xs stored zs h r =
    let long = length-take-le k xs h in
    let p = parts m [] c s (take k xs) (drop k xs) stored zs (subst (λ (bs : Stream). FaultyRuns m [] c s bs stored zs) (sym (take-append-drop k xs)) r) in
    let now : at_cycle stored k ≡ p.now = ap (at_cycle stored) (sym long) ∙ p.is_now in
    let outs = take_parts zs p.shown p.later k p.outs_in_parts (p.lengths.1 ∙ long) in
    record {
      before = p.before;
      after = p.after;
      in_parts = p.states_in_parts ∙ ap (λ (b : Bits). p.before ++ b ∷ p.after) (sym now);
      long = p.lengths.0 ∙ long;
      first = subst (λ (b : Bits). FaultyRuns m [] c s (take k xs) (p.before ++ b ∷ []) (take k zs)) (sym now) (subst (λ (bs : List Bits). FaultyRuns m [] c s (take k xs) (p.before ++ p.now ∷ []) bs) (sym outs.0) p.first);
      second = subst (λ (b : Bits). FaultyRuns m [] (c + k) b (drop k xs) (b ∷ p.after) (drop k zs)) (sym now)
          (subst (λ (bs : List Bits). FaultyRuns m [] (c + k) p.now (drop k xs) (p.now ∷ p.after) bs) (sym outs.1)
          (subst (λ (n : ℕ). FaultyRuns m [] (c + n) p.now (drop k xs) (p.now ∷ p.after) p.later) long p.second));
    }

module _ (g : File) (m : Model) (code : Code) (l : Layout) (p : ℕ) (mode : Mode) (t : ℕ) (fault : Fault) (xs : Stream) (ys stored zs : List Bits) where
  abbrev c : ℕ
  c = fault.cycle

  over_whole : (bs : Stream) (ks : List Bits) → bs ≡ xs → ks ≡ ys → (o : Outcome) → IsSorted g code l p mode t bs ks fault o → IsSorted g code l p mode t xs ys fault o
  over_whole bs ks e f o h = subst (λ (b : Stream). IsSorted g code l p mode t b ys fault o) e (subst (λ (k : List Bits). IsSorted g code l p mode t bs k fault o) f h)

  pub early : (n : ℕ) → (faulty shown : List Bits) → EarlyEndsAreSorted g m code l p mode t fault xs ys stored zs n faulty shown
  early n faulty shown is_main free same some within middle =
      let one = free_parts m 0 (init_bits m) c xs stored zs (omega arith) (of_file g m xs stored zs is_main free) in
      let rest_long : length (drop c xs) ≡ length xs - c = length-drop c xs in
      let n_fits : n ≤ length (drop c xs) = omega arith in
      let two = free_parts m (0 + c) (at_cycle stored c) n (drop c xs) (at_cycle stored c ∷ one.after) (drop c zs) n_fits one.second in
      let met : at_cycle (at_cycle stored c ∷ one.after) n ≡ at_cycle stored (c + n) =
      sym (get_or-append-add one.before (at_cycle stored c ∷ one.after) n []) ∙ (λ i. at_cycle (sym one.in_parts i) (one.long i + n)) in
      let before_long : length (take c xs) ≡ c = length-take-le c xs (omega arith) in
      let between_long : length (take n (drop c xs)) ≡ n = length-take-le n (drop c xs) n_fits in
      let ys_long : length (drop c ys) ≡ length ys - c = length-drop c ys in
      let a : length (take c ys) ≡ length (take c xs) = length-take-le c ys (omega arith) ∙ sym before_long in
      let b : length (take n (drop c ys)) ≡ length (take n (drop c xs)) = length-take-le n (drop c ys) (omega arith) ∙ sym between_long in
      let last_x = length-drop n (drop c xs) in
      let last_y = length-drop n (drop c ys) in
      let d : length (drop n (drop c ys)) ≡ length (drop n (drop c xs)) = omega arith in
      let sorted =
      sorted_by_parts g code l p mode t fault m (take c xs) (take n (drop c xs)) (drop n (drop c xs)) (take c ys) (take c zs) (take n (drop c ys)) shown (drop n (drop c ys)) (drop n (drop c zs))
      (record {
        is_main = is_main;
        in_cycle = sym before_long;
        some_cycle = omega arith;
        stored = one.before;
        now = at_cycle stored c;
        faulty = faulty;
        met = at_cycle stored (c + n);
        rest = at_cycle (at_cycle stored c ∷ one.after) n ∷ two.after;
        first = one.first;
        middle = subst (λ (k : ℕ). FaultyRuns m (fault ∷ []) k (at_cycle stored c) (take n (drop c xs)) (faulty ++ at_cycle stored (c + n) ∷ []) shown) (sym before_long) middle;
        last = subst (λ (b : Bits). FaultyRuns m [] (length (take c xs) + length (take n (drop c xs))) b (drop n (drop c xs)) (at_cycle (at_cycle stored c ∷ one.after) n ∷ two.after) (drop n (drop c zs))) met
            (subst (λ (k : ℕ). FaultyRuns m [] k (at_cycle (at_cycle stored c ∷ one.after) n) (drop n (drop c xs)) (at_cycle (at_cycle stored c ∷ one.after) n ∷ two.after) (drop n (drop c zs))) (let e : 0 + c + n ≡ length (take c xs) + length (take n (drop c xs)) = omega arith in e) two.second);
      })
      a b d in
      let whole : (bs : List Bits) → take c bs ++ (take n (drop c bs) ++ drop n (drop c bs)) ≡ bs = λ bs. ap (λ (ks : List Bits). take c bs ++ ks) (take-append-drop n (drop c bs)) ∙ take-append-drop c bs in
      over_whole (take c xs ++ (take n (drop c xs) ++ drop n (drop c xs))) (take c ys ++ (take n (drop c ys) ++ drop n (drop c ys))) (whole xs) (whole ys)
      (outcome_seen mode (then_seen (then_seen (seen code l p t (take c ys) (take c zs)) (seen code l p t (take n (drop c ys)) shown)) (seen code l p t (drop n (drop c ys)) (drop n (drop c zs)))))
      sorted

  pub whole_run : (faulty shown : List Bits) → WholeRunsAreSorted g m code l p mode t fault xs ys stored zs faulty shown
  whole_run faulty shown is_main free same within middle =
      let one = free_parts m 0 (init_bits m) c xs stored zs within (of_file g m xs stored zs is_main free) in
      let before_long : length (take c xs) ≡ c = length-take-le c xs within in
      let first = (elsewhere m fault 0 (init_bits m) (take c xs) (one.before ++ at_cycle stored c ∷ []) (take c zs) (inr (omega arith))).0 one.first in
      let at : FaultyRuns m (fault ∷ []) (0 + length (take c xs)) (at_cycle stored c) (drop c xs) faulty shown =
      subst (λ (k : ℕ). FaultyRuns m (fault ∷ []) k (at_cycle stored c) (drop c xs) faulty shown) (let e : c ≡ 0 + length (take c xs) = omega arith in e) middle in
      let run = run_of_parts m (fault ∷ []) 0 (init_bits m) (at_cycle stored c) (take c xs) (drop c xs) one.before faulty (take c zs) shown first at in
      let shown_long : length shown ≡ length (drop c xs) = run_length (λ c x s y next. FaultyCycle m (fault ∷ []) c x s y next) c (at_cycle stored c) (drop c xs) faulty shown middle in
      let zs_long : length (take c zs) ≡ length (take c xs) = run_length (λ c x s y next. FaultyCycle m [] c x s y next) 0 (init_bits m) (take c xs) (one.before ++ at_cycle stored c ∷ []) (take c zs) one.first in
      let x_long : length (drop c xs) ≡ length xs - c = length-drop c xs in
      let y_long : length (take c ys) ≡ c = length-take-le c ys (omega arith) in
      let all_long = length-append (take c zs) shown in
      let outcome = outcome_is_seen code l p t mode ys (take c zs ++ shown) (omega arith) in
      let in_parts = ap (λ (bs : List Bits). seen code l p t bs (take c zs ++ shown)) (sym (take-append-drop c ys)) ∙ seen_parts code l p t (take c ys) (take c zs) (drop c ys) shown (omega arith) in (
        one.before ++ faulty,
        take c zs ++ shown,
        to_file g m (fault ∷ []) is_main xs (one.before ++ faulty) (take c zs ++ shown) (subst (λ (bs : Stream). FaultyRuns m (fault ∷ []) 0 (init_bits m) bs (one.before ++ faulty) (take c zs ++ shown)) (take-append-drop c xs) run),
        sym (outcome ∙ ap (outcome_seen mode) in_parts),
      )
