-- Runs without faults to the end of the stream, from their last cycles to their first.
use Rattle.std.proofs.Common.{◌≡◌, refl, sym, ◌∙◌, ap, ap₂, subst, ℕ, zero, suc, ◌+◌, ◌<◌, ◌≤◌, List, [], ◌∷◌, ◌++◌, length, take, drop, arith, length-drop}
use Rattle.std.specs.Prelude.{◌-◌, All}
use Rattle.std.proofs.lemmas.List.Elements.{All-push}
use Rattle.std.proofs.lemmas.Option.{get_or_from_slice_get}
use Rattle.std.proofs.Math.Seq.{drop-cons, take-length}
use Rattle.netlist_spec.specs.Netlist.{Name, File}
use Rattle.netlist_spec.specs.Runs.{FaultyCycle}
use Rattle.netlist_spec.specs.SourceRun.{Bits, Stream}
use Rattle.guard_spec.specs.Contained.{at_cycle}
use Rattle.tally_laws.specs.Parts.{FaultyRuns}
use Rattle.tally_laws.specs.Seen.{then_seen}
use Rattle.fault_sim.specs.Simulated.{Simulated, Simulates}
use Rattle.campaign.specs.declared.rest.Meeting.{Meeting}
use Rattle.campaign.specs.declared.runner.Runner.{Runner}
use Rattle.campaign.specs.declared.seen.Seen.{Seen as SeenSoFar}
use Rattle.campaign.specs.declared.task.Task.{Task}
use Rattle.campaign.specs.Views.{seen_of}
use Rattle.campaign.specs.Runs.{AreFrom, IsCycle, RunTo, RunsOn, seen_in, wanted_rows}
use Rattle.campaign.specs.Rests.{GoesOn, IsMeeting, KeepsRest}
use Rattle.campaign.proofs.RunLemmas.{count_rows, still}

pub no_faults : (cells : List Name) (first : ℕ) → AreFrom first cells [] []
no_faults cells first zero = refl
no_faults cells first (suc i) = refl

-- all rows that are left
pub all_left : (rows : List Bits) (cycle count : ℕ) → cycle ≤ length rows → count ≡ length rows - cycle → take count (drop cycle rows) ≡ drop cycle rows
all_left rows cycle count within e = ap (λ (n : ℕ). take n (drop cycle rows)) (e ∙ sym (length-drop cycle rows)) ∙ take-length (drop cycle rows)

-- the row of a cycle, and those behind it
from_cycle : (rows : List Bits) (cycle : ℕ) → cycle < length rows → drop cycle rows ≡ at_cycle rows cycle ∷ drop (cycle + 1) rows
from_cycle rows cycle within = let more : suc cycle ≡ cycle + 1 = omega arith in drop-cons rows cycle [] within ∙ ap (λ (n : ℕ). at_cycle rows cycle ∷ drop n rows) more

pub to_the_end : (task : Task) (old new : Runner) (cycle count : ℕ) (rest : SeenSoFar) → cycle ≤ length task.stimulus.now.cycles → count ≡ length task.stimulus.now.cycles - cycle → RunsOn task old cycle count [] rest new
    → (g : File) (simulates : Simulates g old.sim) → GoesOn task simulates.ordered.model cycle old.sim.stored (seen_of rest)
to_the_end task old new cycle count rest within is_count ran g simulates =
    let xs = task.stimulus.now.cycles in
    let ys = wanted_rows task in
    let rows : length ys ≡ length xs = count_rows task new ran.ready in
    record {
      shown = ran.shown;
      last = new.sim.stored;
      run = subst (λ (bs : Stream). RunTo simulates.ordered.model [] cycle old.sim.stored bs ran.shown new.sim.stored) (all_left xs cycle count within is_count) (ran.run g simulates [] (no_faults old.sim.cells cycle));
      is_seen = ran.is_seen ∙ ap (λ (bs : List Bits). seen_in task bs ran.shown) (all_left ys cycle count (omega (arith, rows, within)) (omega (arith, rows, is_count)));
    }

one_before : (task : Task) (old mid : Runner) (cycle : ℕ) (here rest whole : SeenSoFar) → cycle < length task.stimulus.now.cycles → IsCycle task old cycle [] here mid → seen_of whole ≡ then_seen (seen_of here) (seen_of rest)
    → (g : File) (simulates : Simulates g old.sim) → GoesOn task simulates.ordered.model (cycle + 1) mid.sim.stored (seen_of rest) → GoesOn task simulates.ordered.model cycle old.sim.stored (seen_of whole)
one_before task old mid cycle here rest whole within step is_whole g simulates r =
    let m = simulates.ordered.model in
    let xs = task.stimulus.now.cycles in
    let ys = wanted_rows task in
    let rows : length ys ≡ length xs = count_rows task mid step.ready in
    let under = step.cycle g simulates in
    let at : FaultyCycle m [] cycle step.x old.sim.stored step.shown mid.sim.stored = record { values = under.values; agrees = under.agrees; outputs = under.outputs; stores = under.stores } in
    let x_left : step.x ∷ drop (cycle + 1) xs ≡ drop cycle xs = ap (λ (b : Bits). b ∷ drop (cycle + 1) xs) (sym (get_or_from_slice_get xs cycle step.x [] step.is_row)) ∙ sym (from_cycle xs cycle within) in
    let y_left : at_cycle ys cycle ∷ drop (cycle + 1) ys ≡ drop cycle ys = sym (from_cycle ys cycle (omega (arith, rows, within))) in
    record {
      shown = step.shown ∷ r.shown;
      last = r.last;
      run = record {
        states = old.sim.stored ∷ r.run.states;
        is_run = subst (λ (bs : Stream). FaultyRuns m [] cycle old.sim.stored bs (old.sim.stored ∷ (r.run.states ++ r.last ∷ [])) (step.shown ∷ r.shown)) x_left (refl, mid.sim.stored, at, r.run.is_run);
      };
      is_seen = is_whole ∙ (ap₂ then_seen step.is_seen r.is_seen ∙ ap (λ (bs : List Bits). seen_in task bs (step.shown ∷ r.shown)) y_left);
    }

-- a cycle is run, and then the rest, whose first cycle is kept
pub keeps_more : (task : Task) (old mid new : Runner) (cycle : ℕ) (before between after : List Meeting) (here rest whole : SeenSoFar) (meeting : Meeting) → cycle < length task.stimulus.now.cycles → IsCycle task old cycle [] here mid → KeepsRest task mid (cycle + 1) before rest between new
    → after ≡ between ++ meeting ∷ [] → meeting.cycle ≡ cycle + 1 → meeting.stored.items ≡ mid.sim.stored → meeting.rest ≡ rest → seen_of whole ≡ then_seen (seen_of here) (seen_of rest) → KeepsRest task old cycle before whole after new
keeps_more task old mid new cycle before between after here rest whole meeting within step keeps is_after is_cycle is_stored is_rest is_whole =
    record {
      goes_on = λ g simulates. one_before task old mid cycle here rest whole within step is_whole g simulates (keeps.goes_on g (still g old.sim mid.sim step.netlist simulates));
      kept = λ g simulates all.
          let now = still g old.sim mid.sim step.netlist simulates in
          let m = simulates.ordered.model in
          let met : IsMeeting task m meeting =
          subst (λ (n : ℕ). GoesOn task m n meeting.stored.items (seen_of meeting.rest)) (sym is_cycle)
          (subst (λ (bs : Bits). GoesOn task m (cycle + 1) bs (seen_of meeting.rest)) (sym is_stored)
          (subst (λ (s : SeenSoFar). GoesOn task m (cycle + 1) mid.sim.stored (seen_of s)) (sym is_rest) (keeps.goes_on g now))) in
          subst (All (IsMeeting task m)) (sym is_after) (All-push (IsMeeting task m) between meeting (keeps.kept g now all) met);
      netlist = keeps.netlist ∙ ap (λ (s : Simulated). record s { stored = new.sim.stored }) step.netlist;
      ready = keeps.ready;
    }
