-- The outcome of a run with one fault, and the counts of the two faults of a cell.
use Rattle.std.proofs.Common.{◌≡◌, refl, sym, ◌∙◌, ap, ap₂, subst, ℕ, zero, suc, ◌+◌, ◌*◌, ◌<◌, ◌≤◌, List, [], ◌∷◌, ◌++◌, length, take, drop, get_or, Bool, true, false, cond, ◌⊎◌, inl, inr, Some, ◌==◌, eqb-true, eq-eqb, arith, length-drop, take-append-drop}
use Rattle.std.specs.Prelude.{◌-◌}
use Rattle.std.specs.List.{AllByRecursion, AllZip}
use Rattle.std.proofs.lemmas.List.{take_more, length-take-le, drop-drop, drop_all}
use Rattle.std.proofs.lemmas.List.Elements.{All-contains}
use Rattle.std.proofs.lemmas.Grind.{flat_map-append}
use Rattle.std.proofs.Math.Seq.{take-length}
use Rattle.netlist_spec.specs.Netlist.{Name, Model, File}
use Rattle.netlist_spec.specs.Models.{main_model, first_model, init_bits}
use Rattle.netlist_spec.specs.Models.{data_inputs}
use Rattle.netlist_spec.proofs.SomeRun.{some_run}
use Rattle.netlist_spec.proofs.OneRun.{one_run}
use Rattle.guard_spec.specs.Contained.{at_cycle}
use Rattle.tally_laws.specs.Settled.{IsSettled, SettledRunsAreSorted}
use Rattle.tally_laws.proofs.EarlyEnd.{free_parts, of_file}
use Rattle.netlist_spec.specs.Ordered.{IsOrdered}
use Rattle.netlist_spec.specs.SourceRun.{Bits, Stream}
use Rattle.netlist_spec.specs.Runs.{Fault, Run, forced_at}
use Rattle.guard_spec.specs.Codes.{Code, Mode}
use Rattle.guard_spec.specs.Words.{Layout}
use Rattle.guard_spec.specs.Tally.{Outcome, right, alarmed, decoded, wrong, Tally, single_faults}
use Rattle.settings.specs.Types.{mode_in}
use Rattle.encode_state.proofs.ListedLemmas.{zip_push}
use Rattle.tally_laws.specs.Counts.{RunsAreCounted, counted, total}
use Rattle.tally_laws.specs.Parts.{FaultyRuns}
use Rattle.tally_laws.specs.Seen.{nothing_seen, then_seen, seen, outcome_seen, Seen}
use Rattle.tally_laws.specs.Sorted.{IsSorted, IsRunInThree, FaultsAreSortedByParts, LateFaultsAreSorted}
use Rattle.tally_laws.proofs.Parts.{to_file}
use Rattle.fault_sim.specs.declared.faults.CellFault.{CellFault}
use Rattle.fault_sim.specs.Simulated.{Simulated, Simulates}
use Rattle.campaign.specs.declared.runner.Runner.{Runner}
use Rattle.campaign.specs.declared.seen.Seen.{Seen as SeenSoFar}
use Rattle.campaign.specs.declared.seen.Outcome.{Outcome as FoundOutcome}
use Rattle.campaign.specs.declared.sort.Fork.{Fork}
use Rattle.campaign.specs.declared.tally.Tally.{Tally as Counts}
use Rattle.campaign.specs.declared.task.Task.{Task}
use Rattle.campaign.specs.Views.{seen_of, outcome_in, tally_in}
use Rattle.campaign.specs.Runs.{AreFrom, RunTo, RunsOn, seen_in, wanted_rows, IsReady}
use Rattle.campaign.specs.Rests.{GoesOn, IsMeeting}
use Rattle.campaign.specs.Sorted.{CountsCell, CountsCells, IsBegun, IsMet, IsOver, IsSortedIn, Sorts, Stops, Tallied, fault_in}
use Rattle.campaign.proofs.RunLemmas.{LastSeen, count_rows, still}

abbrev pub ByParts : Type 0
ByParts = (g : File) (m : Model) (code : Code) (l : Layout) (p : ℕ) (mode : Mode) (t : ℕ) (fault : Fault) (before between after : Stream) (ys zs wanted shown more later : List Bits)
    → FaultsAreSortedByParts g m code l p mode t fault before between after ys zs wanted shown more later

abbrev pub Late : Type 0
Late = (g : File) (code : Code) (l : Layout) (p : ℕ) (mode : Mode) (t : ℕ) (fault : Fault) (xs : Stream) (stored ys zs : List Bits) → LateFaultsAreSorted g code l p mode t fault xs stored ys zs

-- ---- the faults of one cycle

forced_if : (f : Fault) (k : ℕ) (b : Bool) → (f.cycle == k) ≡ b → forced_at k (f ∷ []) ≡ cond b ((f.cell, f.bit) ∷ []) []
forced_if f k true e = rw e refl
forced_if f k false e = rw e refl

pub forced_here : (cells : List Name) (fault : CellFault) (cycle first : ℕ) → first ≡ cycle → AreFrom first cells (fault ∷ []) (fault_in cycle cells fault ∷ [])
forced_here cells fault cycle first e zero =
    let same : cycle ≡ first + 0 = omega (arith, e) in
    sym (forced_if (fault_in cycle cells fault) (first + 0) true (eq-eqb cycle (first + 0) same))
forced_here cells fault cycle first e (suc i) = sym (forced_if (fault_in cycle cells fault) (first + suc i) false (by (cycle == (first + suc i)) refl))
  where
    by : (b : Bool) → (cycle == (first + suc i)) ≡ b → b ≡ false
    by false h = refl
    by true h = let same : cycle ≡ first + suc i = eqb-true cycle (first + suc i) h in absurd (omega (arith, e, same))

is_main : (g : File) (ordered : IsOrdered g) → main_model g ≡ Some ordered.model
is_main g ordered = ap first_model ordered.one_model

module _ (task : Task) where
  abbrev xs : Stream
  xs = task.stimulus.now.cycles

  abbrev ys : List Bits
  ys = wanted_rows task

  -- the whole run in three parts, of which the last is of a run without faults
  met_fault : ByParts → (g : File) (ordered : IsOrdered g) (fork : Fork) (fault : Fault) (n : ℕ) (shown : List Bits) (met : Bits) (rest : Seen) → length ys ≡ length xs → fork.cycle ≡ fault.cycle → 1 ≤ n → fork.cycle + n ≤ length xs
      → IsBegun task ordered.model fault.cycle fork
      → RunTo ordered.model (fault ∷ []) fork.cycle fork.stored.now (take n (drop fork.cycle xs)) shown met → GoesOn task ordered.model (fork.cycle + n) met rest
      → IsSortedIn task g fault (outcome_seen (mode_in task.mode) (then_seen (then_seen (seen_of fork.before) (seen_in task (take n (drop fork.cycle ys)) shown)) rest))
  met_fault by_parts g ordered fork fault n shown met rest rows at some within begun r goes_on =
      let m = ordered.model in
      let k = fork.cycle in
      let code = task.code.now in
      let l = task.layout.now in
      let p = task.outputs in
      let t = task.bound in
      let mode = mode_in task.mode in
      let front : length (take k xs) ≡ k = length-take-le k xs (omega arith) in
      let front_y : length (take k ys) ≡ k = length-take-le k ys (omega arith) in
      let from_x = length-drop k xs in
      let from_y = length-drop k ys in
      let between : length (take n (drop k xs)) ≡ n = length-take-le n (drop k xs) (omega arith) in
      let between_y : length (take n (drop k ys)) ≡ n = length-take-le n (drop k ys) (omega arith) in
      let back = length-drop (k + n) xs in
      let back_y = length-drop (k + n) ys in
      let place : k + n ≡ length (take k xs) + length (take n (drop k xs)) = omega arith in
      let whole : (rows : List Bits) → take k rows ++ (take n (drop k rows) ++ drop (k + n) rows) ≡ rows =
      λ rows. ap (λ (bs : List Bits). take k rows ++ (take n (drop k rows) ++ bs)) (sym (drop-drop n k rows)) ∙ (ap (λ (bs : List Bits). take k rows ++ bs) (take-append-drop n (drop k rows)) ∙ take-append-drop k rows) in
      let three : IsRunInThree g m fault (take k xs) (take n (drop k xs)) (drop (k + n) xs) begun.shown shown goes_on.shown =
      record {
        is_main = is_main g ordered;
        in_cycle = sym at ∙ sym front;
        some_cycle = omega arith;
        stored = begun.run.states;
        now = fork.stored.now;
        faulty = r.states;
        met = met;
        rest = goes_on.run.states ++ goes_on.last ∷ [];
        first = begun.run.is_run;
        middle = subst (λ (c : ℕ). FaultyRuns m (fault ∷ []) c fork.stored.now (take n (drop k xs)) (r.states ++ met ∷ []) shown) (sym front) r.is_run;
        last = subst (λ (c : ℕ). FaultyRuns m [] c met (drop (k + n) xs) (goes_on.run.states ++ goes_on.last ∷ []) goes_on.shown) place goes_on.run.is_run;
      } in
      let sorted = by_parts g m code l p mode t fault (take k xs) (take n (drop k xs)) (drop (k + n) xs) (take k ys) begun.shown (take n (drop k ys)) shown (drop (k + n) ys) goes_on.shown three (front_y ∙ sym front) (between_y ∙ sym between)
      (let e : length (drop (k + n) ys) ≡ length (drop (k + n) xs) = omega arith in e) in
      let seen_now = then_seen (seen_in task (take k ys) begun.shown) (seen_in task (take n (drop k ys)) shown) in
      let o = outcome_seen mode (then_seen seen_now (seen_in task (drop (k + n) ys) goes_on.shown)) in
      let same : o ≡ outcome_seen mode (then_seen (then_seen (seen_of fork.before) (seen_in task (take n (drop k ys)) shown)) rest) =
      ap (outcome_seen mode) (ap₂ then_seen (ap (λ (a : Seen). then_seen a (seen_in task (take n (drop k ys)) shown)) (sym begun.is_seen)) (sym goes_on.is_seen)) in
      subst (λ (q : Outcome). IsSortedIn task g fault q) same
      (subst (λ (bs : Stream). IsSorted g code l p mode t bs ys fault o) (whole xs)
      (subst (λ (bs : List Bits). IsSorted g code l p mode t (take k xs ++ (take n (drop k xs) ++ drop (k + n) xs)) bs fault o) (whole ys) sorted))

  -- no cycle is left
  at_the_end : (m : Model) (cycle : ℕ) (stored : Bits) → length xs ≤ cycle → length ys ≤ cycle → GoesOn task m cycle stored nothing_seen
  at_the_end m cycle stored end end_y =
      record {
        shown = [];
        last = stored;
        run = record { states = []; is_run = subst (λ (bs : Stream). FaultyRuns m [] cycle stored bs (stored ∷ []) []) (sym (drop_all cycle xs end)) refl };
        is_seen = ap (λ (bs : List Bits). seen_in task bs []) (sym (drop_all cycle ys end_y));
      }

  early_fault : ByParts → LastSeen → (g : File) (ordered : IsOrdered g) (fork : Fork) (fault : Fault) (shown : List Bits) (met : Bits) → length ys ≡ length xs → fork.cycle ≡ fault.cycle → fault.cycle < length xs
      → IsBegun task ordered.model fault.cycle fork
      → RunTo ordered.model (fault ∷ []) fork.cycle fork.stored.now (take (length xs - fork.cycle) (drop fork.cycle xs)) shown met
      → IsSortedIn task g fault (outcome_seen (mode_in task.mode) (then_seen (seen_of fork.before) (seen_in task (take (length xs - fork.cycle) (drop fork.cycle ys)) shown)))
  early_fault by_parts last g ordered fork fault shown met rows at within begun r =
      let count = length xs - fork.cycle in
      subst (λ (a : Seen). IsSortedIn task g fault (outcome_seen (mode_in task.mode) a)) (last (then_seen (seen_of fork.before) (seen_in task (take count (drop fork.cycle ys)) shown)))
      (met_fault by_parts g ordered fork fault count shown met nothing_seen rows at (omega arith) (omega arith) begun r (at_the_end ordered.model (fork.cycle + count) met (omega arith) (omega arith)))

  late_fault : Late → LastSeen → (g : File) (ordered : IsOrdered g) (fork : Fork) (fault : Fault) (shown : List Bits) → length ys ≡ length xs → fork.cycle ≡ length xs → length xs ≤ fault.cycle
      → IsBegun task ordered.model fault.cycle fork
      → IsSortedIn task g fault (outcome_seen (mode_in task.mode) (then_seen (seen_of fork.before) (seen_in task (take (length xs - fork.cycle) (drop fork.cycle ys)) shown)))
  late_fault late last g ordered fork fault shown rows at behind begun =
      let m = ordered.model in
      let k = fork.cycle in
      let code = task.code.now in
      let l = task.layout.now in
      let p = task.outputs in
      let t = task.bound in
      let mode = mode_in task.mode in
      let all_x : take k xs ≡ xs = ap (λ (n : ℕ). take n xs) at ∙ take-length xs in
      let all_y : take k ys ≡ ys = ap (λ (n : ℕ). take n ys) (at ∙ sym rows) ∙ take-length ys in
      let count : length xs - k ≡ 0 = omega arith in
      let run : Run g xs [] (begun.run.states ++ fork.stored.now ∷ []) begun.shown =
      to_file g m [] (is_main g ordered) xs (begun.run.states ++ fork.stored.now ∷ []) begun.shown (subst (λ (b : Stream). FaultyRuns m [] 0 (init_bits m) b (begun.run.states ++ fork.stored.now ∷ []) begun.shown) all_x begun.run.is_run) in
      let sorted = late g code l p mode t fault xs (begun.run.states ++ fork.stored.now ∷ []) ys begun.shown behind run (begun.long ∙ (at ∙ sym rows)) in
      let empty : seen_in task (take (length xs - k) (drop k ys)) shown ≡ nothing_seen = ap (λ (n : ℕ). seen_in task (take n (drop k ys)) shown) count in
      let same : seen code l p t ys begun.shown ≡ then_seen (seen_of fork.before) (seen_in task (take (length xs - k) (drop k ys)) shown) =
      ap (λ (bs : List Bits). seen code l p t bs begun.shown) (sym all_y) ∙ (sym begun.is_seen ∙ (sym (last (seen_of fork.before)) ∙ ap (then_seen (seen_of fork.before)) (sym empty))) in
      subst (λ (o : Outcome). IsSortedIn task g fault o) (ap (outcome_seen mode) same) sorted

-- the run with the fault from where it leaves the run without
pub sorts : ByParts → Late → LastSeen → (task : Task) (old restored new : Runner) (fork : Fork) (fault : CellFault) (count : ℕ) (part whole : SeenSoFar) (o : FoundOutcome) → restored.sim ≡ record old.sim { stored = fork.stored.now } → fork.cycle ≤ length task.stimulus.now.cycles
    → count ≡ length task.stimulus.now.cycles - fork.cycle → RunsOn task restored fork.cycle count (fault ∷ []) part new → seen_of whole ≡ then_seen (seen_of fork.before) (seen_of part) → outcome_in o ≡ outcome_seen (mode_in task.mode) (seen_of whole)
    → Sorts task old fork fault o new
sorts by_parts late last task old restored new fork fault count part whole o restores fits is_count ran is_whole is_o =
    let cycles = task.stimulus.now.cycles in
    let rows = count_rows task new ran.ready in
    let stored : restored.sim.stored ≡ fork.stored.now = ap (λ (s : Simulated). s.stored) restores in
    let kept : restored.sim ≡ record old.sim { stored = restored.sim.stored } = restores ∙ ap (λ (b : Bits). record old.sim { stored = b }) (sym stored) in
    let cells : restored.sim.cells ≡ old.sim.cells = ap (λ (s : Simulated). s.cells) restores in
    let seen_whole : outcome_seen (mode_in task.mode) (then_seen (seen_of fork.before) (seen_in task (take (length cycles - fork.cycle) (drop fork.cycle (wanted_rows task))) ran.shown)) ≡ outcome_in o =
    ap (outcome_seen (mode_in task.mode)) (ap (then_seen (seen_of fork.before)) (ap (λ (n : ℕ). seen_in task (take n (drop fork.cycle (wanted_rows task))) ran.shown) (sym is_count) ∙ sym ran.is_seen) ∙ sym is_whole) ∙ sym is_o in
    record {
      sorted = λ g simulates cycle begun.
          let now = still g old.sim restored.sim kept simulates in
          let named = fault_in cycle old.sim.cells fault in
          let by_place : ((fork.cycle ≡ cycle) × (cycle < length cycles)) ⊎ ((fork.cycle ≡ length cycles) × (length cycles ≤ cycle)) → IsSortedIn task g named (outcome_seen (mode_in task.mode) (then_seen (seen_of fork.before) (seen_in task (take (length cycles - fork.cycle) (drop fork.cycle (wanted_rows task))) ran.shown)))
          = λ where_it_is. place task g simulates.ordered fork named ran.shown new.sim.stored rows by_parts late last begun
          (λ at. let r = ran.run g now (named ∷ []) (subst (λ (names : List Name). AreFrom fork.cycle names (fault ∷ []) (named ∷ [])) (sym cells) (forced_here old.sim.cells fault cycle fork.cycle at)) in
          subst (λ (b : Bits). RunTo simulates.ordered.model (named ∷ []) fork.cycle b (take (length cycles - fork.cycle) (drop fork.cycle cycles)) ran.shown new.sim.stored) stored
          (subst (λ (n : ℕ). RunTo simulates.ordered.model (named ∷ []) fork.cycle restored.sim.stored (take n (drop fork.cycle cycles)) ran.shown new.sim.stored) is_count r))
          where_it_is in
          subst (λ (q : Outcome). IsSortedIn task g named q) seen_whole (by_place begun.at);
      netlist = ran.netlist ∙ ap (λ (s : Simulated). record s { stored = new.sim.stored }) restores;
      ready = ran.ready;
    }
  where
    place : (task : Task) (g : File) (ordered : IsOrdered g) (fork : Fork) (fault : Fault) (shown : List Bits) (met : Bits) → length (wanted_rows task) ≡ length task.stimulus.now.cycles → ByParts → Late → LastSeen → IsBegun task ordered.model fault.cycle fork
        → (fork.cycle ≡ fault.cycle → RunTo ordered.model (fault ∷ []) fork.cycle fork.stored.now (take (length task.stimulus.now.cycles - fork.cycle) (drop fork.cycle task.stimulus.now.cycles)) shown met)
        → ((fork.cycle ≡ fault.cycle) × (fault.cycle < length task.stimulus.now.cycles)) ⊎ ((fork.cycle ≡ length task.stimulus.now.cycles) × (length task.stimulus.now.cycles ≤ fault.cycle))
        → IsSortedIn task g fault (outcome_seen (mode_in task.mode) (then_seen (seen_of fork.before) (seen_in task (take (length task.stimulus.now.cycles - fork.cycle) (drop fork.cycle (wanted_rows task))) shown)))
    place task g ordered fork fault shown met rows by_parts late last begun run (inl at) = early_fault task by_parts last g ordered fork fault shown met rows at.0 at.1 begun (run at.0)
    place task g ordered fork fault shown met rows by_parts late last begun run (inr at) = late_fault task late last g ordered fork fault shown rows at.0 at.1 begun

-- ---- runs that stop early

abbrev final : List Bits → Bits
final [] = []
final (x ∷ []) = x
final (x ∷ y ∷ rest) = final (y ∷ rest)

final_push : (bs : List Bits) (x : Bits) → final (bs ++ x ∷ []) ≡ x
final_push [] x = refl
final_push (y ∷ []) x = refl
final_push (y ∷ z ∷ rest) x = final_push (z ∷ rest) x

abbrev pub SettledSorted : Type 0
SettledSorted = (g : File) (code : Code) (l : Layout) (p : ℕ) (mode : Mode) (t : ℕ) (fault : Fault) (xs : Stream) (ys stored zs : List Bits) (n : ℕ) (now : Bits) (faulty shown : List Bits) (o : Outcome)
    → SettledRunsAreSorted g code l p mode t fault xs ys stored zs n now faulty shown o

settled_fault : SettledSorted → (task : Task) (g : File) (simulates : IsOrdered g) (fork : Fork) (fault : Fault) (n : ℕ) (shown : List Bits) (met : Bits) (o : Outcome) → AllByRecursion (λ x. length (data_inputs simulates.model) ≡ length x) task.stimulus.now.cycles
    → length (wanted_rows task) ≡ length task.stimulus.now.cycles → fork.cycle ≡ fault.cycle → fork.cycle + n ≤ length task.stimulus.now.cycles → IsBegun task simulates.model fault.cycle fork
    → RunTo simulates.model (fault ∷ []) fork.cycle fork.stored.now (take n (drop fork.cycle task.stimulus.now.cycles)) shown met
    → IsSettled (mode_in task.mode) (then_seen (seen_of fork.before) (seen_in task (take n (drop fork.cycle (wanted_rows task))) shown)) o → IsSortedIn task g fault o
settled_fault law task g ordered fork fault n shown met o wide rows at fits begun r is =
    let xs = task.stimulus.now.cycles in
    let ys = wanted_rows task in
    let m = ordered.model in
    let k = fork.cycle in
    let main = is_main g ordered in
    let free = some_run g ordered xs [] wide in
    let parts = free_parts m 0 (init_bits m) k xs free.0 free.1 (omega (arith, fits)) (of_file g m xs free.0 free.1 main free.2) in
    let same = one_run g ordered (take k xs) [] (parts.before ++ at_cycle free.0 k ∷ []) (take k free.1) (begun.run.states ++ fork.stored.now ∷ []) begun.shown
    (to_file g m [] main (take k xs) (parts.before ++ at_cycle free.0 k ∷ []) (take k free.1) parts.first) (to_file g m [] main (take k xs) (begun.run.states ++ fork.stored.now ∷ []) begun.shown begun.run.is_run) in
    let start : fork.stored.now ≡ at_cycle free.0 k = sym (sym (final_push parts.before (at_cycle free.0 k)) ∙ (ap final same.0 ∙ final_push begun.run.states fork.stored.now)) in
    let before : seen_of fork.before ≡ seen_in task (take k ys) (take k free.1) = begun.is_seen ∙ ap (seen_in task (take k ys)) (sym same.1) in
    let run : FaultyRuns m (fault ∷ []) k (at_cycle free.0 k) (take n (drop k xs)) (r.states ++ met ∷ []) shown = subst (λ (b : Bits). FaultyRuns m (fault ∷ []) k b (take n (drop k xs)) (r.states ++ met ∷ []) shown) start r.is_run in
    let settled : IsSettled (mode_in task.mode) (then_seen (seen_in task (take k ys) (take k free.1)) (seen_in task (take n (drop k ys)) shown)) o =
    subst (λ (a : Seen). IsSettled (mode_in task.mode) (then_seen a (seen_in task (take n (drop k ys)) shown)) o) before is in
    law g task.code.now task.layout.now task.outputs (mode_in task.mode) task.bound fault xs ys free.0 free.1 n met r.states shown o ordered wide free.2 rows (subst (λ (c : ℕ). c + n ≤ length xs) at fits)
    (subst (λ (c : ℕ). FaultyRuns m (fault ∷ []) c (at_cycle free.0 c) (take n (drop c xs)) (r.states ++ met ∷ []) shown) at run)
    (subst (λ (c : ℕ). IsSettled (mode_in task.mode) (then_seen (seen_in task (take c ys) (take c free.1)) (seen_in task (take n (drop c ys)) shown)) o) at settled)

-- a run that has met the run without faults
met_sorted : ByParts → (task : Task) (old restored new : Runner) (fork : Fork) (fault : CellFault) (count : ℕ) (part whole : SeenSoFar) (o : FoundOutcome) → restored.sim ≡ record old.sim { stored = fork.stored.now } → fork.cycle + count ≤ length task.stimulus.now.cycles
    → RunsOn task restored fork.cycle count (fault ∷ []) part new → IsMet fork count part new.sim.stored whole → outcome_in o ≡ outcome_seen (mode_in task.mode) (seen_of whole) → Sorts task old fork fault o new
met_sorted by_parts task old restored new fork fault count part whole o restores fits ran is_met is_o =
    record {
      sorted = λ g simulates cycle begun. at_place g simulates cycle begun begun.at;
      netlist = ran.netlist ∙ ap (λ (s : Simulated). record s { stored = new.sim.stored }) restores;
      ready = ran.ready;
    }
  where
    at_place : (g : File) (simulates : Simulates g old.sim) (cycle : ℕ) → IsBegun task simulates.ordered.model cycle fork
        → ((fork.cycle ≡ cycle) × (cycle < length task.stimulus.now.cycles)) ⊎ ((fork.cycle ≡ length task.stimulus.now.cycles) × (length task.stimulus.now.cycles ≤ cycle)) → IsSortedIn task g (fault_in cycle old.sim.cells fault) (outcome_in o)
    at_place g simulates cycle begun (inr at) = let some = is_met.some in let place = at.0 in absurd (omega arith)
    at_place g simulates cycle begun (inl at) =
        let m = simulates.ordered.model in
        let kept = is_met.kept in
        let stored : restored.sim.stored ≡ fork.stored.now = ap (λ (s : Simulated). s.stored) restores in
        let same : restored.sim ≡ record old.sim { stored = restored.sim.stored } = restores ∙ ap (λ (b : Bits). record old.sim { stored = b }) (sym stored) in
        let cells : restored.sim.cells ≡ old.sim.cells = ap (λ (s : Simulated). s.cells) restores in
        let now = still g old.sim restored.sim same simulates in
        let named = fault_in cycle old.sim.cells fault in
        let r = ran.run g now (named ∷ []) (subst (λ (names : List Name). AreFrom fork.cycle names (fault ∷ []) (named ∷ [])) (sym cells) (forced_here old.sim.cells fault cycle fork.cycle at.0)) in
        let meeting : GoesOn task m kept.meeting.cycle kept.meeting.stored.items (seen_of kept.meeting.rest) = All-contains (IsMeeting task m) fork.meetings.now kept.meeting begun.meetings kept.stands in
        let goes_on : GoesOn task m (fork.cycle + count) new.sim.stored (seen_of is_met.rest) =
        subst (λ (n : ℕ). GoesOn task m n new.sim.stored (seen_of is_met.rest)) kept.at
        (subst (λ (bs : Bits). GoesOn task m kept.meeting.cycle bs (seen_of is_met.rest)) kept.same (subst (λ (s : SeenSoFar). GoesOn task m kept.meeting.cycle kept.meeting.stored.items (seen_of s)) kept.is_rest meeting)) in
        let is_seen : then_seen (then_seen (seen_of fork.before) (seen_in task (take count (drop fork.cycle (wanted_rows task))) ran.shown)) (seen_of is_met.rest) ≡ seen_of whole =
        ap (λ (a : Seen). then_seen (then_seen (seen_of fork.before) a) (seen_of is_met.rest)) (sym ran.is_seen) ∙ sym is_met.is_whole in
        subst (λ (q : Outcome). IsSortedIn task g named q) (ap (outcome_seen (mode_in task.mode)) is_seen ∙ sym is_o)
        (met_fault task by_parts g simulates.ordered fork named count ran.shown new.sim.stored (seen_of is_met.rest) (count_rows task new ran.ready) at.0 is_met.some fits begun
        (subst (λ (b : Bits). RunTo m (named ∷ []) fork.cycle b (take count (drop fork.cycle task.stimulus.now.cycles)) ran.shown new.sim.stored) stored r) goes_on)

pub stops_sorted : ByParts → Late → LastSeen → SettledSorted → (task : Task) (old restored new : Runner) (fork : Fork) (fault : CellFault) (whole : SeenSoFar) (o : FoundOutcome) → IsReady task old → restored.sim ≡ record old.sim { stored = fork.stored.now }
    → fork.cycle ≤ length task.stimulus.now.cycles → Stops task restored fork fault whole new → outcome_in o ≡ outcome_seen (mode_in task.mode) (seen_of whole) → Sorts task old fork fault o new
stops_sorted by_parts late last law task old restored new fork fault whole o ready restores fits stops is_o = by stops.ends
  where
    settled : seen_of whole ≡ then_seen (seen_of fork.before) (seen_of stops.part) → IsSettled (mode_in task.mode) (seen_of whole) (outcome_seen (mode_in task.mode) (seen_of whole)) → Sorts task old fork fault o new
    settled is_whole h =
        record {
          sorted = λ g simulates cycle begun. at_place g simulates cycle begun begun.at;
          netlist = stops.ran.netlist ∙ ap (λ (s : Simulated). record s { stored = new.sim.stored }) restores;
          ready = stops.ran.ready;
        }
      where
        at_place : (g : File) (simulates : Simulates g old.sim) (cycle : ℕ) → IsBegun task simulates.ordered.model cycle fork
            → ((fork.cycle ≡ cycle) × (cycle < length task.stimulus.now.cycles)) ⊎ ((fork.cycle ≡ length task.stimulus.now.cycles) × (length task.stimulus.now.cycles ≤ cycle)) → IsSortedIn task g (fault_in cycle old.sim.cells fault) (outcome_in o)
        at_place g simulates cycle begun (inr at) =
            let place = at.0 in
            let within = stops.fits in
            (sorts by_parts late last task old restored new fork fault stops.count stops.part whole o restores fits (omega arith) stops.ran is_whole is_o).sorted g simulates cycle begun
        at_place g simulates cycle begun (inl at) =
            let stored : restored.sim.stored ≡ fork.stored.now = ap (λ (s : Simulated). s.stored) restores in
            let kept : restored.sim ≡ record old.sim { stored = restored.sim.stored } = restores ∙ ap (λ (b : Bits). record old.sim { stored = b }) (sym stored) in
            let cells : restored.sim.cells ≡ old.sim.cells = ap (λ (s : Simulated). s.cells) restores in
            let now = still g old.sim restored.sim kept simulates in
            let named = fault_in cycle old.sim.cells fault in
            let r = stops.ran.run g now (named ∷ []) (subst (λ (names : List Name). AreFrom fork.cycle names (fault ∷ []) (named ∷ [])) (sym cells) (forced_here old.sim.cells fault cycle fork.cycle at.0)) in
            let m = simulates.ordered.model in
            let wide : AllByRecursion (λ x. length (data_inputs m) ≡ length x) task.stimulus.now.cycles = subst (λ (names : List Name). AllByRecursion (λ x. length names ≡ length x) task.stimulus.now.cycles) simulates.model.inputs ready.wide in
            let is_seen : seen_of whole ≡ then_seen (seen_of fork.before) (seen_in task (take stops.count (drop fork.cycle (wanted_rows task))) stops.ran.shown) = is_whole ∙ ap (then_seen (seen_of fork.before)) stops.ran.is_seen in
            subst (λ (q : Outcome). IsSortedIn task g named q) (sym is_o)
            (settled_fault law task g simulates.ordered fork named stops.count stops.ran.shown new.sim.stored (outcome_seen (mode_in task.mode) (seen_of whole)) wide (count_rows task new stops.ran.ready) at.0 stops.fits begun
            (subst (λ (b : Bits). RunTo m (named ∷ []) fork.cycle b (take stops.count (drop fork.cycle task.stimulus.now.cycles)) stops.ran.shown new.sim.stored) stored r)
            (subst (λ (a : Seen). IsSettled (mode_in task.mode) a (outcome_seen (mode_in task.mode) (seen_of whole))) is_seen h))

    by : IsOver task fork stops.count stops.part whole ⊎ IsMet fork stops.count stops.part new.sim.stored whole → Sorts task old fork fault o new
    by (inl over) = over_by over.ends
      where
        over_by : (stops.count ≡ length task.stimulus.now.cycles - fork.cycle) ⊎ IsSettled (mode_in task.mode) (seen_of whole) (outcome_seen (mode_in task.mode) (seen_of whole)) → Sorts task old fork fault o new
        over_by (inl e) = sorts by_parts late last task old restored new fork fault stops.count stops.part whole o restores fits e stops.ran over.is_whole is_o
        over_by (inr h) = settled over.is_whole h
    by (inr is_met) = met_sorted by_parts task old restored new fork fault stops.count stops.part whole o restores stops.fits stops.ran is_met is_o

-- ---- counts

abbrev pub Counted : Type 0
Counted = (os : List Outcome) (o : Outcome) → RunsAreCounted os o

append_pair : (fs : List Fault) (a b : Fault) → (fs ++ a ∷ []) ++ b ∷ [] ≡ fs ++ (a ∷ b ∷ [])
append_pair [] a b = refl
append_pair (x ∷ fs) a b = ap (λ (rest : List Fault). x ∷ rest) (append_pair fs a b)

cell_more : (cycle cell : ℕ) (cells : List Name) → cell < length cells
    → (single_faults cycle (take cell cells) ++ record { cycle = cycle; cell = get_or cells cell []; bit = false } ∷ []) ++ record { cycle = cycle; cell = get_or cells cell []; bit = true } ∷ []
    ≡ single_faults cycle (take (cell + 1) cells)
cell_more cycle cell cells within =
    let n = get_or cells cell [] in
    append_pair (single_faults cycle (take cell cells)) (record { cycle = cycle; cell = n; bit = false }) (record { cycle = cycle; cell = n; bit = true })
    ∙ (sym (flat_map-append (λ (m : Name). record { cycle = cycle; cell = m; bit = false } ∷ record { cycle = cycle; cell = m; bit = true } ∷ []) (take cell cells) (n ∷ []))
    ∙ ap (single_faults cycle) (sym (take_more cells cell [] within)))

pub total_more : (n : Tally) (o : Outcome) → total (counted n o) ≡ total n + 1
total_more n right = omega arith
total_more n alarmed = omega arith
total_more n decoded = omega arith
total_more n wrong = omega arith

pub counts_cell : Counted → (task : Task) (old mid new : Runner) (fork : Fork) (cell : ℕ) (low_one high_one : FoundOutcome) (before between after : Counts) → cell < length old.sim.cells → total (tally_in before) ≡ 2 * cell
    → Sorts task old fork (record { cell = record { 0 = cell }; value = false }) low_one mid → Sorts task mid fork (record { cell = record { 0 = cell }; value = true }) high_one new
    → tally_in between ≡ counted (tally_in before) (outcome_in low_one) → tally_in after ≡ counted (tally_in between) (outcome_in high_one) → CountsCell task old fork cell before after new
counts_cell count task old mid new fork cell low_one high_one before between after within few first second is_between is_after =
    let cells : mid.sim.cells ≡ old.sim.cells = ap (λ (s : Simulated). s.cells) first.netlist in
    let a = total_more (tally_in before) (outcome_in low_one) in
    let b = total_more (tally_in between) (outcome_in high_one) in
    let c = ap total is_between in
    let d = ap total is_after in
    record {
      tallied = λ g simulates cycle begun so_far.
          let now = still g old.sim mid.sim first.netlist simulates in
          let low = first.sorted g simulates cycle begun in
          let high = subst (λ (names : List Name). IsSortedIn task g (fault_in cycle names (record { cell = record { 0 = cell }; value = true })) (outcome_in high_one)) cells (second.sorted g now cycle begun) in
          let faults = single_faults cycle (take cell old.sim.cells) in
          let f = fault_in cycle old.sim.cells (record { cell = record { 0 = cell }; value = false }) in
          let h = fault_in cycle old.sim.cells (record { cell = record { 0 = cell }; value = true }) in
          record {
            outcomes = (so_far.outcomes ++ outcome_in low_one ∷ []) ++ outcome_in high_one ∷ [];
            each = subst (λ (fs : List Fault). AllZip (IsSortedIn task g) fs ((so_far.outcomes ++ outcome_in low_one ∷ []) ++ outcome_in high_one ∷ [])) (cell_more cycle cell old.sim.cells within)
                (zip_push (IsSortedIn task g) (faults ++ f ∷ []) (so_far.outcomes ++ outcome_in low_one ∷ []) h (outcome_in high_one) (zip_push (IsSortedIn task g) faults so_far.outcomes f (outcome_in low_one) so_far.each low) high);
            counts = is_after ∙ (ap (λ (n : Tally). counted n (outcome_in high_one)) (is_between ∙ (ap (λ (n : Tally). counted n (outcome_in low_one)) so_far.counts ∙ sym (count so_far.outcomes (outcome_in low_one)))) ∙ sym (count (so_far.outcomes ++ outcome_in low_one ∷ []) (outcome_in high_one)));
          };
      all = omega (arith, a, b, c, d, few);
      netlist = second.netlist ∙ ap (λ (s : Simulated). record s { stored = new.sim.stored }) first.netlist;
      ready = second.ready;
    }

pub counts_more : (task : Task) (old mid new : Runner) (fork : Fork) (cell : ℕ) (before after : Counts) → CountsCells task old fork cell before mid → CountsCell task mid fork cell before after new → CountsCells task old fork (cell + 1) after new
counts_more task old mid new fork cell before after so_far step =
    let cells : mid.sim.cells ≡ old.sim.cells = ap (λ (s : Simulated). s.cells) so_far.netlist in
    record {
      tallied = λ g simulates cycle begun.
          let now = still g old.sim mid.sim so_far.netlist simulates in
          subst (λ (names : List Name). Tallied task g cycle (take (cell + 1) names) (tally_in after)) cells
          (step.tallied g now cycle begun (subst (λ (names : List Name). Tallied task g cycle (take cell names) (tally_in before)) (sym cells) (so_far.tallied g simulates cycle begun)));
      all = step.all;
      netlist = step.netlist ∙ ap (λ (s : Simulated). record s { stored = new.sim.stored }) so_far.netlist;
      ready = step.ready;
    }
