-- Runs whose outcome is settled before they end.
use Rattle.std.proofs.Common.{◌≡◌, refl, sym, ◌∙◌, ap, subst, ℕ, zero, suc, ◌+◌, List, [], ◌∷◌, ◌++◌, length, map, take, drop, Bool, true, false, ◌&&◌, ◌||◌, cond, None, Some, arith, length-drop, length-take-le, take-append-drop}
use Rattle.std.specs.List.{AllByRecursion}
use Rattle.std.proofs.lemmas.List.{length-map}
use Rattle.netlist_spec.specs.Netlist.{Model, File}
use Rattle.netlist_spec.specs.Models.{main_model, first_model, latches_of, init_bit, init_bits, data_inputs, latch_outputs, latch_inputs, output_nets}
use Rattle.netlist_spec.specs.Fits.{Valuation}
use Rattle.netlist_spec.specs.SourceRun.{Bits, Stream}
use Rattle.netlist_spec.specs.FileOrder.{items_of, first_answer}
use Rattle.netlist_spec.specs.Ordered.{item_fault, fault_of_models}
use Rattle.netlist_spec.specs.Runs.{Fault, forced_at, FaultyCycle}
use Rattle.guard_spec.specs.Codes.{Code, Mode, detect, correct}
use Rattle.guard_spec.specs.Words.{Layout}
use Rattle.guard_spec.specs.Contained.{at_cycle}
use Rattle.guard_spec.specs.Tally.{Outcome, right, alarmed, decoded, wrong}
use Rattle.netlist_spec.proofs.OneValue.{none_both}
use Rattle.netlist_spec.proofs.SomeValue.{cycle_values, some_values}
use Rattle.tally_laws.specs.Parts.{FaultyRuns}
use Rattle.tally_laws.specs.Seen.{Seen, then_seen, seen, outcome_seen}
use Rattle.tally_laws.specs.Sorted.{IsSorted}
use Rattle.tally_laws.specs.Settled.{IsSettled, SettledRunsAreSorted}
use Rattle.tally_laws.proofs.Parts.{run_of_parts}
use Rattle.tally_laws.proofs.Seen.{seen_parts, in_row}
use Rattle.tally_laws.proofs.Sorted.{run_length}
use Rattle.tally_laws.proofs.EarlyEnd.{free_parts, of_file, whole_run}

is_alarmed_then : (ar ai aa br bi : Bool) → ar ≡ false → ai ≡ true → aa ≡ true → cond (ar && br) right (cond (ai && (aa || bi)) alarmed wrong) ≡ alarmed
is_alarmed_then false true true br bi e f g = refl
is_alarmed_then true ai aa br bi e f g = cc e
is_alarmed_then false false aa br bi e f g = cc f
is_alarmed_then false true false br bi e f g = cc g

is_wrong_then : (good : Outcome) (ar ai br bi : Bool) → ar ≡ false → ai ≡ false → cond (ar && br) right (cond (ai && bi) good wrong) ≡ wrong
is_wrong_then good false false br bi e f = refl
is_wrong_then good true ai br bi e f = cc e
is_wrong_then good false true br bi e f = cc f

pub stays : (mode : Mode) (a b : Seen) (o : Outcome) → IsSettled mode a o → outcome_seen mode (then_seen a b) ≡ o
stays detect a b alarmed h = is_alarmed_then a.right a.in_time a.raised b.right b.in_time h.0 h.1 h.2
stays detect a b wrong h = is_wrong_then alarmed a.right a.in_time b.right (a.raised || b.in_time) h.0 h.1
stays detect a b right h = absurd h
stays detect a b decoded h = absurd h
stays correct a b wrong h = is_wrong_then decoded a.right a.near b.right b.near h.0 h.1
stays correct a b right h = absurd h
stays correct a b alarmed h = absurd h
stays correct a b decoded h = absurd h

-- ---- the rest of a run

module _ (m : Model) where
  next_long : (v : Valuation) → length (latch_outputs m) ≡ length (map v (latch_inputs m))
  next_long v = length-map (latches_of m) (λ l. l.q) ∙ (sym (length-map (latches_of m) (λ l. l.d)) ∙ sym (length-map (latch_inputs m) v))

  run_from : (ordered : first_answer (item_fault m) [] (items_of m) ≡ None) (faults : List Fault) (c : ℕ) (s : Bits) (xs : Stream) → AllByRecursion (λ x. length (data_inputs m) ≡ length x) xs → length (latch_outputs m) ≡ length s
      → (states outs : List Bits) × FaultyRuns m faults c s xs states outs
  run_from ordered faults c s [] w h = (s ∷ [], [], refl)
  run_from ordered faults c s (x ∷ xs) w h =
      let v = cycle_values m ordered (forced_at c faults) x s in
      let rest = run_from ordered faults (c + 1) (map v (latch_inputs m)) xs w.1 (next_long v) in
      let here : FaultyCycle m faults c x s (map v (output_nets m)) (map v (latch_inputs m)) = record { values = v; agrees = some_values m ordered (forced_at c faults) x s w.0 h; outputs = refl; stores = refl } in
      (s ∷ rest.0, map v (output_nets m) ∷ rest.1, (refl, map v (latch_inputs m), here, rest.2))

  -- a run ends with as many stored bits as there are latches
  end_long : (faults : List Fault) (c : ℕ) (s now : Bits) (xs : Stream) (states outs : List Bits) → FaultyRuns m faults c s xs (states ++ now ∷ []) outs → length (latch_outputs m) ≡ length s → length (latch_outputs m) ≡ length now
  end_long faults c s now [] [] [] r h = h ∙ ap (λ (b : Bits). length b) (sym r)
  end_long faults c s now [] [] (y ∷ outs) r h = absurd r
  end_long faults c s now [] (k ∷ []) outs r h = absurd r
  end_long faults c s now [] (k ∷ j ∷ states) outs r h = absurd r
  end_long faults c s now (x ∷ []) [] [] r h = absurd r
  end_long faults c s now (x ∷ []) [] (y ∷ outs) r h = absurd r.3
  end_long faults c s now (x ∷ z ∷ xs) [] [] r h = absurd r
  end_long faults c s now (x ∷ z ∷ xs) [] (y ∷ outs) r h = absurd r.3
  end_long faults c s now (x ∷ xs) (k ∷ states) [] r h = absurd r
  end_long faults c s now (x ∷ xs) (k ∷ states) (y ∷ outs) r h =
      end_long faults (c + 1) r.1 now xs states outs r.3 (next_long r.2.values ∙ ap (λ (b : Bits). length b) r.2.stores)

wide_drop : (k n : ℕ) (xs : Stream) → AllByRecursion (λ x. k ≡ length x) xs → AllByRecursion (λ x. k ≡ length x) (drop n xs)
wide_drop k zero xs w = w
wide_drop k (suc n) [] w = w
wide_drop k (suc n) (x ∷ xs) w = wide_drop k n xs w.1

pub settled : (g : File) (code : Code) (l : Layout) (p : ℕ) (mode : Mode) (t : ℕ) (fault : Fault) (xs : Stream) (ys stored zs : List Bits) (n : ℕ) (now : Bits) (faulty shown : List Bits) (o : Outcome) → SettledRunsAreSorted g code l p mode t fault xs ys stored zs n now faulty shown o
settled g code l p mode t fault xs ys stored zs n now faulty shown o ordered wide free same within part is_settled =
    let free_of_fault : first_answer (item_fault ordered.model) [] (items_of ordered.model) ≡ None = (none_both _ _ (ap fault_of_models (sym ordered.one_model) ∙ ordered.no_fault)).0 in
    let is_main : main_model g ≡ Some ordered.model = ap first_model ordered.one_model in
    let one = free_parts ordered.model 0 (init_bits ordered.model) fault.cycle xs stored zs (omega arith) (of_file g ordered.model xs stored zs is_main free) in
    let init_long : length (latch_outputs ordered.model) ≡ length (init_bits ordered.model) = length-map (latches_of ordered.model) (λ l. l.q) ∙ sym (length-map (latches_of ordered.model) (λ l. init_bit l.init)) in
    let start_long = end_long ordered.model [] 0 (init_bits ordered.model) (at_cycle stored fault.cycle) (take fault.cycle xs) one.before (take fault.cycle zs) one.first init_long in
    let now_long = end_long ordered.model (fault ∷ []) fault.cycle (at_cycle stored fault.cycle) now (take n (drop fault.cycle xs)) faulty shown part start_long in
    let rest = run_from ordered.model free_of_fault (fault ∷ []) (fault.cycle + length (take n (drop fault.cycle xs))) now (drop n (drop fault.cycle xs))
    (wide_drop (length (data_inputs ordered.model)) n (drop fault.cycle xs) (wide_drop (length (data_inputs ordered.model)) fault.cycle xs wide)) now_long in
    let all : FaultyRuns ordered.model (fault ∷ []) fault.cycle (at_cycle stored fault.cycle) (drop fault.cycle xs) (faulty ++ rest.0) (shown ++ rest.1) =
    subst (λ (bs : Stream). FaultyRuns ordered.model (fault ∷ []) fault.cycle (at_cycle stored fault.cycle) bs (faulty ++ rest.0) (shown ++ rest.1)) (take-append-drop n (drop fault.cycle xs))
    (run_of_parts ordered.model (fault ∷ []) fault.cycle (at_cycle stored fault.cycle) now (take n (drop fault.cycle xs)) (drop n (drop fault.cycle xs)) faulty rest.0 shown rest.1 part rest.2) in
    let whole = whole_run g ordered.model code l p mode t fault xs ys stored zs (faulty ++ rest.0) (shown ++ rest.1) is_main free same (omega arith) all in
    let x_long = length-drop fault.cycle xs in
    let y_long = length-drop fault.cycle ys in
    let shown_long : length shown ≡ length (take n (drop fault.cycle xs)) =
    run_length (λ c x s y next. FaultyCycle ordered.model (fault ∷ []) c x s y next) fault.cycle (at_cycle stored fault.cycle) (take n (drop fault.cycle xs)) (faulty ++ now ∷ []) shown part in
    let part_x : length (take n (drop fault.cycle xs)) ≡ n = length-take-le n (drop fault.cycle xs) (omega arith) in
    let part_y : length (take n (drop fault.cycle ys)) ≡ n = length-take-le n (drop fault.cycle ys) (omega arith) in
    let in_two : seen code l p t (drop fault.cycle ys) (shown ++ rest.1) ≡ then_seen (seen code l p t (take n (drop fault.cycle ys)) shown) (seen code l p t (drop n (drop fault.cycle ys)) rest.1) =
    ap (λ (bs : List Bits). seen code l p t bs (shown ++ rest.1)) (sym (take-append-drop n (drop fault.cycle ys)))
    ∙ seen_parts code l p t (take n (drop fault.cycle ys)) shown (drop n (drop fault.cycle ys)) rest.1 (omega arith) in
    let outcome : outcome_seen mode (then_seen (seen code l p t (take fault.cycle ys) (take fault.cycle zs)) (seen code l p t (drop fault.cycle ys) (shown ++ rest.1))) ≡ o =
    ap (λ (b : Seen). outcome_seen mode (then_seen (seen code l p t (take fault.cycle ys) (take fault.cycle zs)) b)) in_two
    ∙ (ap (outcome_seen mode) (sym (in_row (seen code l p t (take fault.cycle ys) (take fault.cycle zs)) (seen code l p t (take n (drop fault.cycle ys)) shown) (seen code l p t (drop n (drop fault.cycle ys)) rest.1)))
    ∙ stays mode (then_seen (seen code l p t (take fault.cycle ys) (take fault.cycle zs)) (seen code l p t (take n (drop fault.cycle ys)) shown)) (seen code l p t (drop n (drop fault.cycle ys)) rest.1) o is_settled) in
    subst (λ (k : Outcome). IsSorted g code l p mode t xs ys fault k) outcome whole
