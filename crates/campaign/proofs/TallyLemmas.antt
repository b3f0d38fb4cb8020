-- The tally of all faults, from the free run up to their cycle and the counts behind it.
use Rattle.std.proofs.Common.{◌≡◌, sym, ◌∙◌, ap, subst, ℕ, ◌<◌, ◌≤◌, List, [], length, take, ◌⊎◌, inl, inr, min, arith, ◌∷◌}
use Rattle.std.specs.Prelude.{◌-◌, All}
use Rattle.std.specs.List.{AllByRecursion, AllZip}
use Rattle.std.proofs.Math.Nat.{eq-zero-or-pos}
use Rattle.std.proofs.Math.Seq.{take-length}
use Rattle.std.proofs.lemmas.List.{length-map}
use Rattle.netlist_spec.specs.Netlist.{Name, File}
use Rattle.netlist_spec.specs.Models.{first_model, init_bit, init_bits, latches_of, output_nets}
use Rattle.netlist_spec.specs.Ordered.{IsOrdered, cell_nets}
use Rattle.netlist_spec.specs.SourceRun.{Bits, Stream}
use Rattle.netlist_spec.specs.Gates.{Machine}
use Rattle.guard_spec.specs.Codes.{data_places}
use Rattle.guard_spec.specs.Words.{IsPartition}
use Rattle.guard_spec.specs.Tally.{IsMachineTally, IsTallyBeside, single_faults}
use Rattle.settings.specs.Types.{mode_in}
use Rattle.fault_sim.specs.Simulated.{Simulates}
use Rattle.campaign.specs.declared.runner.Runner.{Runner}
use Rattle.campaign.specs.declared.sort.Fork.{Fork}
use Rattle.campaign.specs.declared.tally.Tally.{Tally as Counts}
use Rattle.campaign.specs.declared.task.Task.{Task}
use Rattle.campaign.specs.Views.{tally_in}
use Rattle.campaign.specs.Runs.{IsGuardShape, IsMade, IsReady, RunTo, RunsOn, Shows, wanted_rows}
use Rattle.campaign.specs.Rests.{IsMeeting}
use Rattle.campaign.specs.Sorted.{CountsCells, IsBegun, IsSortedIn}
use Rattle.campaign.proofs.RestLemmas.{no_faults}

turned : (n k : ℕ) → n ≡ k → (xs : Stream) → AllByRecursion (λ (x : Bits). length x ≡ k) xs → AllByRecursion (λ (x : Bits). n ≡ length x) xs
turned n k e [] all = tt
turned n k e (x ∷ xs) all = (e ∙ sym all.0, turned n k e xs all.1)

pub made_ready : (f : File) (source : Machine) (task : Task) (s : Runner) (rails : ℕ) → IsMade f s → IsOrdered f → IsGuardShape f source task.layout.now task.code.now rails → task.stimulus.now.inputs ≡ source.inputs
    → IsPartition (length source.outputs) (data_places task.code.now) task.layout.now.output → task.outputs ≡ length source.outputs → Shows source task.stimulus.now.cycles task.wanted.now → length task.stimulus.now.cycles ≤ 1000000 → IsReady task s
made_ready f source task s rails made ordered shape inputs words outputs shows few =
    let model = made.simulates.model in
    let m = made.simulates.ordered.model in
    let fits = shape made.simulates.ordered in
    let ins = fits.0 in
    let outs = fits.1 in
    let shown : length s.sim.outputs ≡ length (output_nets m) = ap length model.outputs in
    let stored : length s.sim.stored ≡ length s.sim.stores =
    ap length (made.starts ∙ model.inits) ∙ (length-map (latches_of m) (λ l. init_bit l.init) ∙ (sym (length-map (latches_of m) (λ l. l.d)) ∙ ap length (sym model.stores))) in
    record {
      file = f;
      simulates = made.simulates;
      stored = stored;
      width = inputs ∙ (sym ins ∙ ap length (sym model.inputs));
      inputs = made.inputs;
      outputs = made.outputs;
      room = omega arith;
      words = subst (λ (n : ℕ). IsPartition n (data_places task.code.now) task.layout.now.output) (sym outputs) words;
      rows = shows.long;
      few = few;
      wide = turned (length s.sim.inputs) source.inputs (ap length model.inputs ∙ ins) task.stimulus.now.cycles shows.wide;
      each = subst (λ (n : ℕ). AllByRecursion (λ (y : Bits). length y ≡ n) (wanted_rows task)) (sym outputs) shows.each;
    }

at_least : (first cycle n : ℕ) → first ≡ min cycle n → ((first ≡ cycle) × (cycle < n)) ⊎ ((first ≡ n) × (n ≤ cycle))
at_least first cycle n e = by (eq-zero-or-pos (n - cycle))
  where
    by : (n - cycle ≡ 0) ⊎ (0 < n - cycle) → ((first ≡ cycle) × (cycle < n)) ⊎ ((first ≡ n) × (n ≤ cycle))
    by (inl h) = inr (omega (arith, e, h), omega (arith, h))
    by (inr h) = inl (omega (arith, e, h), omega (arith, h))

pub begins : (f : File) (task : Task) (s mid : Runner) (fork : Fork) (cycle : ℕ) → (made : IsMade f s) → RunsOn task s 0 fork.cycle [] fork.before mid → fork.stored.now ≡ mid.sim.stored → All (IsMeeting task made.simulates.ordered.model) fork.meetings.now → fork.cycle ≡ min cycle (length task.stimulus.now.cycles)
    → IsBegun task made.simulates.ordered.model cycle fork
begins f task s mid fork cycle made ran is_stored meetings at =
    let m = made.simulates.ordered.model in
    let run = ran.run f made.simulates [] (no_faults s.sim.cells 0) in
    record {
      shown = ran.shown;
      long = ran.long;
      run = subst (λ (b : Bits). RunTo m [] 0 (init_bits m) (take fork.cycle task.stimulus.now.cycles) ran.shown b) (sym is_stored)
          (subst (λ (b : Bits). RunTo m [] 0 b (take fork.cycle task.stimulus.now.cycles) ran.shown mid.sim.stored) (made.starts ∙ made.simulates.model.inits) run);
      is_seen = ran.is_seen;
      meetings = meetings;
      at = at_least fork.cycle cycle (length task.stimulus.now.cycles) at;
    }

pub whole_tally : (f : File) (source : Machine) (task : Task) (s final : Runner) (fork : Fork) (cycle : ℕ) (tally : Counts) (simulates : Simulates f s.sim) → IsBegun task simulates.ordered.model cycle fork → CountsCells task s fork (length s.sim.cells) tally final
    → Shows source task.stimulus.now.cycles task.wanted.now → task.outputs ≡ length source.outputs → IsMachineTally f source task.code.now task.layout.now (mode_in task.mode) task.bound task.stimulus.now.cycles cycle (tally_in tally)
whole_tally f source task s final fork cycle tally simulates begun counts shows outputs =
    let m = simulates.ordered.model in
    let all = counts.tallied f simulates cycle begun in
    let cells : take (length s.sim.cells) s.sim.cells ≡ cell_nets m = take-length s.sim.cells ∙ simulates.model.cells in
    let beside : IsTallyBeside f task.code.now task.layout.now task.outputs (mode_in task.mode) task.bound task.stimulus.now.cycles (wanted_rows task) cycle (tally_in tally) =
    record {
      guard_model = m;
      is_guard_model = ap first_model simulates.ordered.one_model;
      outcomes = all.outcomes;
      each = subst (λ (names : List Name). AllZip (IsSortedIn task f) (single_faults cycle names) all.outcomes) cells all.each;
      counts = all.counts;
    } in
    record {
      states = shows.states;
      outs = wanted_rows task;
      source_run = shows.is_run;
      sorted = subst (λ (p : ℕ). IsTallyBeside f task.code.now task.layout.now p (mode_in task.mode) task.bound task.stimulus.now.cycles (wanted_rows task) cycle (tally_in tally)) outputs beside;
    }
