-- Runs of a guard that grow by a cycle, and what is seen of them.
use Rattle.std.proofs.Common.{◌≡◌, refl, sym, ◌∙◌, ap, ap₂, subst, ℕ, ◌+◌, ◌*◌, ◌<◌, ◌≤◌, List, [], ◌∷◌, ◌++◌, length, take, drop, get_or, Bool, Some, arith, length-append, length-drop}
use Rattle.std.specs.Prelude.{slice_get, Vec}
use Rattle.std.specs.declared.alloc.Global.{Global}
use Rattle.std.specs.List.{AllByRecursion}
use Rattle.std.proofs.lemmas.List.{get_or-map, length-map, take_more, length-take-le, get_or-drop}
use Rattle.std.proofs.lemmas.Option.{get_or_from_slice_get}
use Rattle.netlist_spec.specs.Netlist.{Name, Model, File}
use Rattle.netlist_spec.specs.Models.{latch_inputs}
use Rattle.encode_state.proofs.InitLemmas.{all_at}
use Rattle.netlist_spec.specs.SourceRun.{Bits, Stream}
use Rattle.netlist_spec.specs.Runs.{Fault, FaultyCycle, forced_at}
use Rattle.netlist_spec.specs.Values.{Forced, Values}
use Rattle.guard_spec.specs.Codes.{Code}
use Rattle.guard_spec.specs.Words.{Layout}
use Rattle.guard_spec.specs.Contained.{at_cycle}
use Rattle.tally_laws.specs.Parts.{FaultyRuns, RunsGrow}
use Rattle.tally_laws.specs.Seen.{Seen, SeenInParts, nothing_seen, then_seen, seen_cycle}
use Rattle.fault_sim.specs.declared.faults.CellFault.{CellFault}
use Rattle.fault_sim.specs.Faults.{named_faults}
use Rattle.fault_sim.specs.Simulated.{CycleUnder, HasModel, Simulated, Simulates}
use Rattle.campaign.specs.declared.runner.Runner.{Runner}
use Rattle.campaign.specs.declared.seen.Seen.{Seen as SeenSoFar}
use Rattle.campaign.specs.declared.task.Task.{Task}
use Rattle.campaign.specs.Views.{seen_of}
use Rattle.campaign.specs.Runs.{IsCycle, IsReady, RunTo, RunsOn, faults_after, seen_in, wanted_rows}

-- the file that was simulated still is
abbrev pub still : (file : File) (s t : Simulated) → t ≡ record s { stored = t.stored } → Simulates file s → Simulates file t
still file s t same h =
    record {
      is_file = h.is_file;
      ordered = h.ordered;
      model = subst (HasModel h.ordered.model) (sym same) (record { inputs = h.model.inputs; shown = h.model.shown; stores = h.model.stores; inits = h.model.inits; gates = h.model.gates; outputs = h.model.outputs; cells = h.model.cells });
    }

abbrev pub Grown : Type 0
Grown = (m : Model) (faults : List Fault) (c : ℕ) (s now x y next : Bits) (xs : Stream) (states outs : List Bits) → RunsGrow m faults c s now x y next xs states outs

abbrev pub SeenParts : Type 0
SeenParts = (code : Code) (l : Layout) (p t : ℕ) (ys zs more later : List Bits) → SeenInParts code l p t ys zs more later

abbrev pub LastSeen : Type 0
LastSeen = (a : Seen) → then_seen a nothing_seen ≡ a

pub one_more_of : (xs : List Bits) (first i : ℕ) → first + i < length xs → take (i + 1) (drop first xs) ≡ take i (drop first xs) ++ at_cycle xs (first + i) ∷ []
one_more_of xs first i within =
    let long = length-drop first xs in
    take_more (drop first xs) i [] (omega arith) ∙ ap (λ (b : Bits). take i (drop first xs) ++ b ∷ []) (get_or-drop first xs i [])

long_enough : (xs : List Bits) (first i : ℕ) → first + i ≤ length xs → length (take i (drop first xs)) ≡ i
long_enough xs first i within = let long = length-drop first xs in length-take-le i (drop first xs) (omega arith)

pub run_more : Grown → (m : Model) (all : List Fault) (first i : ℕ) (start now x z next : Bits) (xs : Stream) (shown : List Bits) (forced : Forced) → first + i < length xs → slice_get xs (first + i) ≡ Some x
    → RunTo m all first start (take i (drop first xs)) shown now → forced ≡ forced_at (first + i) all → CycleUnder m forced x now z next
    → RunTo m all first start (take (i + 1) (drop first xs)) (shown ++ z ∷ []) next
run_more grown m all first i start now x z next xs shown forced within row r is cycle =
    let long : length (take i (drop first xs)) ≡ i = long_enough xs first i (omega arith) in
    let at : FaultyCycle m all (first + i) x now z next = record { values = cycle.values; agrees = subst (λ (f : Forced). Values m now x f cycle.values) is cycle.agrees; outputs = cycle.outputs; stores = cycle.stores } in
    let same : x ≡ at_cycle xs (first + i) = sym (get_or_from_slice_get xs (first + i) x [] row) in
    let more : take i (drop first xs) ++ x ∷ [] ≡ take (i + 1) (drop first xs) = ap (λ (b : Bits). take i (drop first xs) ++ b ∷ []) same ∙ sym (one_more_of xs first i within) in
    record {
      states = r.states ++ now ∷ [];
      is_run = subst (λ (s : Stream). FaultyRuns m all first start s ((r.states ++ now ∷ []) ++ next ∷ []) (shown ++ z ∷ [])) more
          (grown m all first start now x z next (take i (drop first xs)) r.states shown r.is_run (subst (λ (n : ℕ). FaultyCycle m all (first + n) x now z next) (sym long) at));
    }

pub count_rows : (task : Task) (s : Runner) → IsReady task s → length (wanted_rows task) ≡ length task.stimulus.now.cycles
count_rows task s ready = length-map task.wanted.now (λ (r : Vec Bool Global). r.items) ∙ ready.rows

pub ran_more : Grown → SeenParts → LastSeen → (task : Task) (old mid new : Runner) (first i : ℕ) (faults : List CellFault) (part here whole : SeenSoFar) → first + i < length task.stimulus.now.cycles
    → RunsOn task old first i faults part mid → IsCycle task mid (first + i) (faults_after i faults) here new → seen_of whole ≡ then_seen (seen_of part) (seen_of here)
    → RunsOn task old first (i + 1) faults whole new
ran_more grown parts last task old mid new first i faults part here whole within ran step is =
    let xs = task.stimulus.now.cycles in
    let ys = wanted_rows task in
    let rows : length ys ≡ length xs = count_rows task mid ran.ready in
    let y = at_cycle ys (first + i) in
    let long : length (take i (drop first ys)) ≡ i = long_enough ys first i (omega arith) in
    let cells : mid.sim.cells ≡ old.sim.cells = ap (λ (s : Simulated). s.cells) ran.netlist in
    record {
      shown = ran.shown ++ step.shown ∷ [];
      long = length-append ran.shown (step.shown ∷ []) ∙ ap (λ (n : ℕ). n + 1) ran.long;
      is_seen = is ∙ (ap₂ then_seen ran.is_seen (step.is_seen ∙ sym (last (seen_cycle task.code.now task.layout.now task.outputs task.bound y step.shown)))
          ∙ (sym (parts task.code.now task.layout.now task.outputs task.bound (take i (drop first ys)) ran.shown (y ∷ []) (step.shown ∷ []) (ran.long ∙ sym long))
          ∙ ap (λ (bs : List Bits). seen_in task bs (ran.shown ++ step.shown ∷ [])) (sym (one_more_of ys first i (omega arith)))));
      run = λ g simulates all from.
          let now = still g old.sim mid.sim ran.netlist simulates in
          run_more grown simulates.ordered.model all first i old.sim.stored mid.sim.stored step.x step.shown new.sim.stored xs ran.shown (named_faults mid.sim.cells (faults_after i faults)) within step.is_row
          (ran.run g simulates all from) (ap (λ (names : List Name). named_faults names (faults_after i faults)) cells ∙ from i) (step.cycle g now);
      netlist = step.netlist ∙ ap (λ (s : Simulated). record s { stored = new.sim.stored }) ran.netlist;
      ready = step.ready;
    }

pub no_cycle : (task : Task) (old : Runner) (first : ℕ) (faults : List CellFault) (part : SeenSoFar) → seen_of part ≡ nothing_seen → IsReady task old → RunsOn task old first 0 faults part old
no_cycle task old first faults part is ready = record {
  shown = [];
  long = refl;
  is_seen = is;
  run = λ g simulates all from. record { states = []; is_run = refl };
  netlist = refl;
  ready = ready;
}

-- ---- one cycle

pub row_here : (task : Task) (s : Runner) → IsReady task s → (c : ℕ) (vec : Vec Bool Global) (bits : Bits) → c < length task.stimulus.now.cycles → vec ≡ get_or task.wanted.now c vec → bits ≡ vec.items
    → (at_cycle (wanted_rows task) c ≡ bits) × (length bits ≡ task.outputs)
row_here task s ready c vec bits within at is =
    let rows = ready.rows in
    let count = count_rows task s ready in
    let same : at_cycle (wanted_rows task) c ≡ bits = get_or-map (λ (r : Vec Bool Global). r.items) task.wanted.now c vec [] (omega arith) ∙ (ap (λ (r : Vec Bool Global). r.items) (sym at) ∙ sym is) in
    (same, sym (ap length same) ∙ all_at (λ y. length y ≡ task.outputs) (wanted_rows task) c [] ready.each (omega arith))

pub seen_here : (task : Task) (part : SeenSoFar) (y z shown : Bits) (c : ℕ) → at_cycle (wanted_rows task) c ≡ y → length y ≡ task.outputs → z ≡ shown → seen_of part ≡ seen_cycle task.code.now task.layout.now (length y) task.bound y z
    → seen_of part ≡ seen_cycle task.code.now task.layout.now task.outputs task.bound (at_cycle (wanted_rows task) c) shown
seen_here task part y z shown c at long is e =
    e ∙ (ap (λ (n : ℕ). seen_cycle task.code.now task.layout.now n task.bound y z) long
    ∙ ap₂ (λ (a b : Bits). seen_cycle task.code.now task.layout.now task.outputs task.bound a b) (sym at) is)

-- as many bits are stored as there are latches
pub stored_all : (g : File) (s : Simulated) (simulates : Simulates g s) (forced : Forced) (x y next : Bits) → CycleUnder simulates.ordered.model forced x s.stored y next → length next ≡ length s.stores
stored_all g s simulates forced x y next cycle =
    ap length (sym cycle.stores) ∙ (length-map (latch_inputs simulates.ordered.model) cycle.values ∙ ap length (sym simulates.model.stores))

pub is_ready : (task : Task) (old new : Runner) → IsReady task old → new.sim ≡ record old.sim { stored = new.sim.stored } → length new.sim.stored ≡ length new.sim.stores → length new.inputs.items ≡ length old.inputs.items → length new.outputs.items ≡ length old.outputs.items → IsReady task new
is_ready task old new ready same stored ins outs =
    record {
      file = ready.file;
      simulates = still ready.file old.sim new.sim same ready.simulates;
      stored = stored;
      width = ready.width ∙ sym (ap (λ (t : Simulated). length t.inputs) same);
      inputs = ins ∙ (ready.inputs ∙ sym (ap (λ (t : Simulated). length t.inputs) same));
      outputs = outs ∙ (ready.outputs ∙ sym (ap (λ (t : Simulated). length t.outputs) same));
      room = subst (λ (n : ℕ). task.outputs + length task.layout.now.output * task.code.now.columns ≤ n) (sym (ap (λ (t : Simulated). length t.outputs) same)) ready.room;
      words = ready.words;
      rows = ready.rows;
      few = ready.few;
      wide = subst (λ (t : Simulated). AllByRecursion (λ (x : Bits). length t.inputs ≡ length x) task.stimulus.now.cycles) (sym same) ready.wide;
      each = ready.each;
    }

pub restored_ready : (task : Task) (old new : Runner) (stored : Bits) → IsReady task old → new.sim ≡ record old.sim { stored = stored } → length stored ≡ length old.sim.stores → length new.inputs.items ≡ length old.inputs.items → length new.outputs.items ≡ length old.outputs.items → IsReady task new
restored_ready task old new stored ready restores long ins outs =
    let now : new.sim.stored ≡ stored = ap (λ (s : Simulated). s.stored) restores in
    is_ready task old new ready (restores ∙ ap (λ (b : Bits). record old.sim { stored = b }) (sym now)) (ap length now ∙ (long ∙ sym (ap (λ (s : Simulated). length s.stores) restores))) ins outs
