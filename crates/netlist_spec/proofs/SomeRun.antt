-- An ordered file has a run on each stream of its width, under each fault list.
use Rattle.std.proofs.Common.{◌≡◌, refl, sym, ◌∙◌, ap, subst, ℕ, suc, ◌+◌, List, [], ◌∷◌, map, length, None}
use Rattle.std.specs.Prelude.{IsSomeAnd}
use Rattle.std.specs.List.{AllByRecursion}
use Rattle.netlist_spec.specs.Netlist.{Model, File}
use Rattle.netlist_spec.specs.Models.{first_model, latches_of, init_bit, init_bits, data_inputs, latch_outputs, latch_inputs, output_nets}
use Rattle.netlist_spec.specs.SourceRun.{Bits, Stream, RunsFrom}
use Rattle.netlist_spec.specs.FileOrder.{items_of, first_answer}
use Rattle.netlist_spec.specs.Ordered.{item_fault, fault_of_models, IsOrdered}
use Rattle.netlist_spec.specs.Runs.{Fault, forced_at, FaultyCycle, Run}
use Rattle.netlist_spec.proofs.OneValue.{none_both}
use Rattle.netlist_spec.proofs.SomeValue.{cycle_values, some_values}

mapped_long : {A B : Type 0} (f : A → B) (xs : List A) → length (map f xs) ≡ length xs
mapped_long f [] = refl
mapped_long f (x ∷ xs) = ap suc (mapped_long f xs)

-- each cycle of a stream has a bit for each data input
abbrev pub IsWide : Model → Stream → Type 0
IsWide m xs = AllByRecursion (λ x. length (data_inputs m) ≡ length x) xs

-- the states and the outputs of a run
abbrev SomeRun : Model → List Fault → ℕ → Bits → Stream → Type 0
SomeRun m faults c s xs = (states outs : List Bits) × RunsFrom (λ c x s y next. FaultyCycle m faults c x s y next) c s xs states outs

run_from : (m : Model) (ordered : first_answer (item_fault m) [] (items_of m) ≡ None) (faults : List Fault) (c : ℕ) (s : Bits) (xs : Stream) → IsWide m xs → length (latch_outputs m) ≡ length s → SomeRun m faults c s xs
run_from m ordered faults c s [] w h = (s ∷ [], [], refl)
run_from m ordered faults c s (x ∷ xs) w h =
    let v = cycle_values m ordered (forced_at c faults) x s in
    let y = map v (output_nets m) in
    let next = map v (latch_inputs m) in
    let long : length (latch_outputs m) ≡ length next = mapped_long (λ l. l.q) (latches_of m) ∙ (sym (mapped_long (λ l. l.d) (latches_of m)) ∙ sym (mapped_long v (latch_inputs m))) in
    let rest = run_from m ordered faults (c + 1) next xs w.1 long in
    let here : FaultyCycle m faults c x s y next = record { values = v; agrees = some_values m ordered (forced_at c faults) x s w.0 h; outputs = refl; stores = refl } in
    (s ∷ rest.0, y ∷ rest.1, (refl, next, here, rest.2))

-- On an ordered file each stream of its width has a run, whatever cells are faulty.
pub some_run : (file : File) (o : IsOrdered file) (xs : Stream) (faults : List Fault) → IsWide o.model xs → (states outs : List Bits) × Run file xs faults states outs
some_run file o xs faults w =
    let fault_free : first_answer (item_fault o.model) [] (items_of o.model) ≡ None = (none_both _ _ (ap fault_of_models (sym o.one_model) ∙ o.no_fault)).0 in
    let long : length (latch_outputs o.model) ≡ length (init_bits o.model) = mapped_long (λ l. l.q) (latches_of o.model) ∙ sym (mapped_long (λ l. init_bit l.init) (latches_of o.model)) in
    let r = run_from o.model fault_free faults 0 (init_bits o.model) xs w long in
    (r.0, r.1, subst (λ ms. IsSomeAnd (first_model ms) (λ m. RunsFrom (λ c x s y next. FaultyCycle m faults c x s y next) 0 (init_bits m) xs r.0 r.1)) (sym o.one_model) r.2)
