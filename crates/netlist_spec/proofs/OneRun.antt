-- An ordered file has at most one run on a stream under a fault list.
use Rattle.std.proofs.Common.{◌≡◌, refl, sym, ◌∙◌, ap, subst, ℕ, ◌+◌, List, [], ◌∷◌, ◌++◌, map, true, false, inl, inr, None}
use Rattle.std.specs.Prelude.{IsSomeAnd, filter_map}
use Rattle.std.specs.List.{AllByRecursion, cons_option, flat_map}
use Rattle.netlist_spec.specs.Netlist.{Name, Statement, names, latch, subckt, Port, Located, Model, File}
use Rattle.netlist_spec.specs.Placed.{port_names}
use Rattle.netlist_spec.specs.Models.{first_model, Latch, as_latch, as_gate, Gate, data_inputs, latch_inputs, output_nets, init_bits}
use Rattle.netlist_spec.specs.Fits.{Valuation}
use Rattle.netlist_spec.specs.SourceRun.{Bits, Stream, CycleStep, RunsFrom}
use Rattle.netlist_spec.specs.FileOrder.{an_input, an_output, a_clock, a_statement, Item, port_items, statement_items, port_items_of, items_of, first_answer}
use Rattle.netlist_spec.specs.Ordered.{item_fault, driven_by, cell_nets, is_at_fault, is_subckt, is_source, has_no_source, IsOrdered, fault_of_models}
use Rattle.netlist_spec.specs.Values.{Values}
use Rattle.netlist_spec.specs.Runs.{Fault, forced_at, FaultyCycle, Run}
use Rattle.netlist_spec.proofs.OneValue.{passes_one, fails_first, not_false, at_name, All_front, All_back, All_from_line, none_both, no_fault_cases, agree_inputs, agree_latches, agree_gates}

-- a line that is not at fault has a source for what it passes on
has_source : (m : Model) (earlier : List Item) (i : Item) → item_fault m earlier i ≡ None → has_no_source m i.what ≡ false
has_source m earlier i e =
    let sound = no_fault_cases (is_subckt i.what) (is_at_fault m earlier i.what) i.line e in
    (fails_first _ _ (fails_first _ _ sound).0).1

all_have : (m : Model) (earlier rest : List Item) → first_answer (item_fault m) earlier rest ≡ None → AllByRecursion (λ i. has_no_source m i.what ≡ false) rest
all_have m earlier [] e = tt
all_have m earlier (i ∷ rest) e =
    let parts = none_both (item_fault m earlier i) _ e in
    (has_source m earlier i parts.0, all_have m (earlier ++ i ∷ []) rest parts.1)

output_sources : (m : Model) (ps : List Port) → AllByRecursion (λ i. has_no_source m i.what ≡ false) (port_items (λ n. an_output n) ps) → AllByRecursion (λ n. is_source m n ≡ true) (port_names ps)
output_sources m [] a = tt
output_sources m (p ∷ ps) a = (not_false _ a.0, output_sources m ps a.1)

one_latch : (m : Model) (s : Statement) (rest : List Latch) → has_no_source m (a_statement s) ≡ false → AllByRecursion (λ n. is_source m n ≡ true) (map (λ l. l.d) rest) → AllByRecursion (λ n. is_source m n ≡ true) (map (λ l. l.d) (cons_option (as_latch s) rest))
one_latch m (names ins out cover) rest h a = a
one_latch m (latch d q clocking init) rest h a = (not_false _ h, a)
one_latch m (subckt model binds) rest h a = a

latch_sources : (m : Model) (ss : List Located) → AllByRecursion (λ i. has_no_source m i.what ≡ false) (statement_items ss) → AllByRecursion (λ n. is_source m n ≡ true) (map (λ l. l.d) (filter_map (λ s. as_latch s.what) ss))
latch_sources m [] a = tt
latch_sources m (s ∷ ss) a = one_latch m s.what _ a.0 (latch_sources m ss a.1)

-- the outputs and the D nets of an ordered model are data inputs or cells
module _ (m : Model) (ordered : first_answer (item_fault m) [] (items_of m) ≡ None) where
  lines_have : AllByRecursion (λ i. has_no_source m i.what ≡ false) (port_items_of m ++ statement_items m.statements)
  lines_have = All_from_line (λ i. has_no_source m i.what ≡ false) (port_items_of m ++ statement_items m.statements) (all_have m [] (items_of m) ordered)

  pub outputs_have : AllByRecursion (λ n. is_source m n ≡ true) (output_nets m)
  outputs_have =
      output_sources m m.outputs
      (All_back (λ i. has_no_source m i.what ≡ false) (port_items (λ n. an_input n) m.inputs) (port_items (λ n. an_output n) m.outputs)
      (All_front (λ i. has_no_source m i.what ≡ false) (port_items (λ n. an_input n) m.inputs ++ port_items (λ n. an_output n) m.outputs) (port_items (λ n. a_clock n) m.clocks)
      (All_front (λ i. has_no_source m i.what ≡ false) (port_items_of m) (statement_items m.statements) lines_have)))

  pub stores_have : AllByRecursion (λ n. is_source m n ≡ true) (latch_inputs m)
  stores_have = latch_sources m m.statements (All_back (λ i. has_no_source m i.what ≡ false) (port_items_of m) (statement_items m.statements) lines_have)

one_cell : (P : Name → Type 0) (s : Statement) (latches : List Latch) (gates : List Gate) (rest : List Name) → (AllByRecursion P (map (λ l. l.q) latches) → AllByRecursion (λ g. P g.out) gates → AllByRecursion P rest)
    → AllByRecursion P (map (λ l. l.q) (cons_option (as_latch s) latches)) → AllByRecursion (λ g. P g.out) (cons_option (as_gate s) gates) → AllByRecursion P (driven_by s ++ rest)
one_cell P (names ins out cover) latches gates rest f a b = (b.0, f a b.1)
one_cell P (latch d q clocking init) latches gates rest f a b = (a.0, f a.1 b)
one_cell P (subckt model binds) latches gates rest f a b = f a b

cells_from : (P : Name → Type 0) (ss : List Located) → AllByRecursion P (map (λ l. l.q) (filter_map (λ s. as_latch s.what) ss)) → AllByRecursion (λ g. P g.out) (filter_map (λ s. as_gate s.what) ss) → AllByRecursion P (flat_map (λ s. driven_by s.what) ss)
cells_from P [] a b = tt
cells_from P (s ∷ ss) a b = one_cell P s.what _ _ _ (cells_from P ss) a b

module _ (m : Model) (ordered : first_answer (item_fault m) [] (items_of m) ≡ None) (x stored : Bits) (faults : List Fault) (c : ℕ) (v w : Valuation) (is_v : Values m stored x (forced_at c faults) v) (is_w : Values m stored x (forced_at c faults) w) where
  agree_source : (n : Name) → is_source m n ≡ true → v n ≡ w n
  agree_source n h =
      elim (passes_one _ _ h) [
        | inl i ↦ at_name (λ k. v k ≡ w k) n (data_inputs m) (agree_inputs m x stored (forced_at c faults) v w is_v is_w) i
        | inr k ↦ at_name (λ k. v k ≡ w k) n (cell_nets m)
            (cells_from (λ k. v k ≡ w k) m.statements (agree_latches m x stored (forced_at c faults) v w is_v is_w) (agree_gates m x stored (forced_at c faults) v w is_v is_w ordered)) k
      ]

  pub mapped_sources : (ns : List Name) → AllByRecursion (λ n. is_source m n ≡ true) ns → map v ns ≡ map w ns
  mapped_sources [] a = refl
  mapped_sources (n ∷ ns) a = λ i. agree_source n a.0 i ∷ mapped_sources ns a.1 i

-- one cycle gives one list of outputs and one next state
pub one_cycle : (m : Model) (ordered : first_answer (item_fault m) [] (items_of m) ≡ None) (faults : List Fault) (c : ℕ) (x s y next y' next' : Bits)
    → FaultyCycle m faults c x s y next → FaultyCycle m faults c x s y' next' → (y ≡ y') × (next ≡ next')
one_cycle m ordered faults c x s y next y' next' a b =
    let same = mapped_sources m ordered x s faults c a.values b.values a.agrees b.agrees in (
      sym a.outputs ∙ (same (output_nets m) (outputs_have m ordered) ∙ b.outputs),
      sym a.stores ∙ (same (latch_inputs m) (stores_have m ordered) ∙ b.stores),
    )

-- a run without a cycle, and a run that begins with one
pub no_cycle : (step : CycleStep) (c : ℕ) (s : Bits) (states outs : List Bits) → RunsFrom step c s [] states outs → (states ≡ s ∷ []) × (outs ≡ [])
no_cycle step c s [] outs r = absurd r
no_cycle step c s (now ∷ []) [] r = ((λ i. r i ∷ []), refl)
no_cycle step c s (now ∷ []) (y ∷ outs) r = absurd r
no_cycle step c s (now ∷ k ∷ states) outs r = absurd r

pub record FirstCycle (step : CycleStep) (c : ℕ) (s x : Bits) (xs : Stream) (states outs : List Bits) : Type 0 where
  pub y : Bits
  pub next : Bits
  pub more : List Bits
  pub later : List Bits
  pub begins : states ≡ s ∷ more
  pub shows : outs ≡ y ∷ later
  pub steps : step c x s y next
  pub goes_on : RunsFrom step (c + 1) next xs more later

pub first_cycle : (step : CycleStep) (c : ℕ) (s x : Bits) (xs : Stream) (states outs : List Bits) → RunsFrom step c s (x ∷ xs) states outs → FirstCycle step c s x xs states outs
first_cycle step c s x xs [] outs r = absurd r
first_cycle step c s x xs (now ∷ more) [] r = absurd r
first_cycle step c s x xs (now ∷ more) (y ∷ later) r =
    record { y = y; next = r.1; more = more; later = later; begins = λ i. r.0 i ∷ more; shows = refl; steps = r.2; goes_on = r.3 }

-- where a cycle gives one list of outputs and one next state, there is one run
pub one_run_by : (step : CycleStep) → ((c : ℕ) (x s y next y' next' : Bits) → step c x s y next → step c x s y' next' → (y ≡ y') × (next ≡ next'))
    → (c : ℕ) (s : Bits) (xs : Stream) (states outs states' outs' : List Bits)
    → RunsFrom step c s xs states outs → RunsFrom step c s xs states' outs' → (states ≡ states') × (outs ≡ outs')
one_run_by step one c s [] states outs states' outs' a b =
    let first = no_cycle step c s states outs a in
    let second = no_cycle step c s states' outs' b in
    (first.0 ∙ sym second.0, first.1 ∙ sym second.1)
one_run_by step one c s (x ∷ xs) states outs states' outs' a b =
    let first = first_cycle step c s x xs states outs a in
    let second = first_cycle step c s x xs states' outs' b in
    let same = one c x s first.y first.next second.y second.next first.steps second.steps in
    let rest = one_run_by step one (c + 1) first.next xs first.more first.later second.more second.later first.goes_on
    (subst (λ n. RunsFrom step (c + 1) n xs second.more second.later) (sym same.1) second.goes_on) in
    (first.begins ∙ ((λ i. s ∷ rest.0 i) ∙ sym second.begins), first.shows ∙ ((λ i. same.0 i ∷ rest.1 i) ∙ sym second.shows))

-- An ordered file has at most one run.
pub one_run : (file : File) → IsOrdered file → (xs : Stream) (faults : List Fault) (states outs states' outs' : List Bits)
    → Run file xs faults states outs → Run file xs faults states' outs' → (states ≡ states') × (outs ≡ outs')
one_run file o xs faults states outs states' outs' a b =
    let m = o.model in
    let fault_free : first_answer (item_fault m) [] (items_of m) ≡ None =
    (none_both _ _ (ap fault_of_models (sym o.one_model) ∙ o.no_fault)).0 in
    let run_of : List Bits → List Bits → Type 0 = λ ss zs. RunsFrom (λ c x s y next. FaultyCycle m faults c x s y next) 0 (init_bits m) xs ss zs in
    one_run_by (λ c x s y next. FaultyCycle m faults c x s y next) (λ c x s y next y' next'. one_cycle m fault_free faults c x s y next y' next') 0 (init_bits m) xs states outs states' outs'
    (on_main states outs a) (on_main states' outs' b)
  where
    on_main : (ss zs : List Bits) → Run file xs faults ss zs → RunsFrom (λ c x s y next. FaultyCycle o.model faults c x s y next) 0 (init_bits o.model) xs ss zs
    on_main ss zs r = subst (λ ms. IsSomeAnd (first_model ms) (λ m. RunsFrom (λ c x s y next. FaultyCycle m faults c x s y next) 0 (init_bits m) xs ss zs)) o.one_model r
