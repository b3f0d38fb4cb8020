-- What a source shows, cycle by cycle.
use Rattle.std.proofs.Common.{◌≡◌, refl, sym, ◌∙◌, ap, subst, ℕ, suc, ◌+◌, ◌<◌, List, [], ◌∷◌, ◌++◌, length, map, take, get_or, Bool, Some, arith, length-append}
use Rattle.std.specs.Prelude.{slice_get, Vec}
use Rattle.std.specs.List.{AllByRecursion, range_with_len}
use Rattle.std.proofs.lemmas.List.FromFn.{length-range_with_len}
use Rattle.std.specs.declared.alloc.Global.{Global}
use Rattle.std.proofs.lemmas.List.{length-map, map-append, take_more}
use Rattle.std.proofs.lemmas.Option.{get_or_from_slice_get}
use Rattle.netlist_spec.specs.SourceRun.{Bits, Stream, CycleStep, RunsFrom}
use Rattle.netlist_spec.specs.Gates.{Machine, GateRun, GateStep, forced_nets_at}
use Rattle.campaign.specs.Runs.{ShowsTo, rows_in}

no_states : (step : CycleStep) (c : ℕ) (s : Bits) (xs : Stream) (outs : List Bits) → RunsFrom step c s xs [] outs → ⊥
no_states step c s [] outs r = r
no_states step c s (x ∷ xs) outs r = r

more : (step : CycleStep) (c : ℕ) (s : Bits) (xs : Stream) (states outs : List Bits) (now x y after : Bits) → RunsFrom step c s xs (states ++ now ∷ []) outs → step (c + length xs) x now y after
    → RunsFrom step c s (xs ++ x ∷ []) ((states ++ now ∷ []) ++ after ∷ []) (outs ++ y ∷ [])
more step c s [] [] [] now x y after r t =
    (r, after, subst (λ (b : Bits). step c x b y after) r (subst (λ (n : ℕ). step n x now y after) (let e : c + 0 ≡ c = omega arith in e) t), refl)
more step c s [] [] (z ∷ outs) now x y after r t = absurd r
more step c s [] (k ∷ []) outs now x y after r t = absurd r
more step c s [] (k ∷ l ∷ states) outs now x y after r t = absurd r
more step c s (x' ∷ xs) [] [] now x y after r t = absurd r
more step c s (x' ∷ xs) [] (z ∷ outs) now x y after r t = absurd (no_states step (c + 1) r.1 xs outs r.3)
more step c s (x' ∷ xs) (k ∷ states) [] now x y after r t = absurd r
more step c s (x' ∷ xs) (k ∷ states) (z ∷ outs) now x y after r t =
    (r.0, r.1, r.2, more step (c + 1) r.1 xs states outs now x y after r.3 (subst (λ (n : ℕ). step n x now y after) (let e : c + suc (length xs) ≡ (c + 1) + length xs = omega arith in e) t))

all_push : (P : Bits → Type 0) (ys : List Bits) (y : Bits) → AllByRecursion P ys → P y → AllByRecursion P (ys ++ y ∷ [])
all_push P [] y all h = (h, tt)
all_push P (x ∷ ys) y all h = (all.0, all_push P ys y all.1 h)

pub shows_more : (source : Machine) (xs : Stream) (c : ℕ) (rows pushed : List (Vec Bool Global)) (out : Vec Bool Global) (x shown state next last : Bits) → c < length xs → slice_get xs c ≡ Some x
    → ShowsTo source (take c xs) rows state → GateStep source [] x state shown next → pushed ≡ rows ++ out ∷ [] → out.items ≡ shown → last ≡ next → ShowsTo source (take (c + 1) xs) pushed last
shows_more source xs c rows pushed out x shown state next last within row so_far step is_pushed is_out is_last =
    let same : x ≡ get_or xs c [] = sym (get_or_from_slice_get xs c x [] row) in
    let longer : take c xs ++ x ∷ [] ≡ take (c + 1) xs = ap (λ (b : Bits). take c xs ++ b ∷ []) same ∙ sym (take_more xs c [] within) in
    let listed : rows_in rows ++ shown ∷ [] ≡ rows_in pushed = ap (λ (b : Bits). rows_in rows ++ b ∷ []) (sym is_out) ∙ (sym (map-append (λ (r : Vec Bool Global). r.items) rows (out ∷ [])) ∙ ap rows_in (sym is_pushed)) in
    let machine_step : CycleStep = λ c x s y next. GateStep source (forced_nets_at c []) x s y next in
    let inits = map (λ l. l.init) source.latches in
    let width : length shown ≡ length source.outputs = ap length (sym step.outputs) ∙ length-map source.outputs step.values in
    record {
      states = so_far.states ++ state ∷ [];
      is_run = subst (λ (b : Bits). GateRun source (take (c + 1) xs) [] ((so_far.states ++ state ∷ []) ++ b ∷ []) (rows_in pushed)) (sym is_last)
          (subst (λ (ys : List Bits). GateRun source (take (c + 1) xs) [] ((so_far.states ++ state ∷ []) ++ next ∷ []) ys) listed
          (subst (λ (bs : Stream). GateRun source bs [] ((so_far.states ++ state ∷ []) ++ next ∷ []) (rows_in rows ++ shown ∷ [])) longer
          (more machine_step 0 inits (take c xs) so_far.states (rows_in rows) state x shown next so_far.is_run step)));
      each = subst (λ (ys : List Bits). AllByRecursion (λ y. length y ≡ length source.outputs) ys) listed (all_push (λ y. length y ≡ length source.outputs) (rows_in rows) shown so_far.each width);
      wide = subst (λ (s : Stream). AllByRecursion (λ b. length b ≡ source.inputs) s) longer (all_push (λ b. length b ≡ source.inputs) (take c xs) x so_far.wide (ap length (sym step.agrees.inputs) ∙ (length-map (range_with_len 0 source.inputs) step.values ∙ length-range_with_len 0 source.inputs)));
      long = ap length is_pushed ∙ (length-append rows (out ∷ []) ∙ (ap (λ (n : ℕ). n + 1) so_far.long ∙ (sym (length-append (take c xs) (x ∷ [])) ∙ ap length longer)));
    }
