use Rattle.std.proofs.Common.{◌≡◌, ◌∙◌, ap, ℕ, ◌+◌, [], ◌∷◌, List, inl, inr, subst, arith}
use Rattle.netlist_spec.specs.SourceRun.{Bits}
use Rattle.tally_laws.specs.Seen.{Seen, then_seen}
use Rattle.fault_sim.specs.declared.faults.CellFault.{CellFault}
use Rattle.campaign.specs.Rests.{IsKept}
use Rattle.campaign.specs.Runs.{IsCycle}
use Rattle.campaign.specs.Views.{seen_of}
use Rattle.campaign.proofs.RunLemmas.{ran_more}
use Rattle.campaign.proofs.sort.run_until_known.Goals as goal

pub loop-i-preserved : goal.loop-i-preserved
loop-i-preserved c =
    let first = c.args.fork.now.cycle in
    let most = c.requires.cycle in
    let test = c.loop-i-test.true in
    let count = c.cycles.ensures.count in
    ran_more c.runs_are_in_parts.ensures.grown c.outcomes_are_seen.ensures.parts c.outcomes_are_seen.ensures.last c.args.task.now c.args.runner.now c.loop-i.runner c.run_cycle-here.new.runner first c.loop-i.i (c.args.fault ∷ []) c.loop-i.part c.run_cycle-here.result c.then-part.result
    (omega arith) c.loop-i.invariant (subst (λ (fs : List CellFault). IsCycle c.args.task.now c.loop-i.runner (first + c.loop-i.i) fs c.run_cycle-here.result c.run_cycle-here.new.runner) c.faults_in.ensures c.run_cycle-here.ensures) c.then-part.ensures

pub returns-then-is_settled : goal.returns-then-is_settled
returns-then-is_settled c =
    let most = c.requires.cycle in
    let test = c.loop-i-test.true in
    let count = c.cycles.ensures.count in
    record { count = c.loop-i.i; part = c.loop-i.part; fits = omega arith; ran = c.loop-i.invariant; ends = inl (record { is_whole = c.then-so_far.ensures; ends = inr (c.is_settled.ensures c.if-is_settled.true) }) }

pub returns : goal.returns
returns c =
    let most = c.requires.cycle in
    let last = c.loop-i.auto.i-end in
    let done = c.loop-i-test.false in
    let count = c.cycles.ensures.count in
    record { count = c.loop-i.i; part = c.loop-i.part; fits = omega arith; ran = c.loop-i.invariant; ends = inl (record { is_whole = c.then-2.ensures; ends = inl (omega arith) }) }

pub returns-in-Some : goal.returns-in-Some
returns-in-Some c =
    let first = c.args.fork.now.cycle in
    let i = c.loop-i.i in
    let most = c.requires.cycle in
    let test = c.loop-i-test.true in
    let count = c.cycles.ensures.count in
    record {
      count = i + 1;
      part = c.then-part.result;
      fits = omega arith;
      ran = ran_more c.runs_are_in_parts.ensures.grown c.outcomes_are_seen.ensures.parts c.outcomes_are_seen.ensures.last c.args.task.now c.args.runner.now c.loop-i.runner c.run_cycle-here.new.runner first i (c.args.fault ∷ []) c.loop-i.part c.run_cycle-here.result c.then-part.result
          (omega arith) c.loop-i.invariant (subst (λ (fs : List CellFault). IsCycle c.args.task.now c.loop-i.runner (first + i) fs c.run_cycle-here.result c.run_cycle-here.new.runner) c.faults_in.ensures c.run_cycle-here.ensures) c.then-part.ensures;
      ends = inr (record {
        some = omega arith;
        rest = c.in-Some.rest;
        kept = subst (λ (n : ℕ). IsKept c.args.fork.now.meetings.now n c.run_cycle-here.new.runner.sim.stored c.in-Some.rest) (let e : first + i + 1 ≡ first + (i + 1) = omega arith in e)
            (subst (λ (bs : Bits). IsKept c.args.fork.now.meetings.now (first + i + 1) bs c.in-Some.rest) c.stored.ensures c.in-Some.ensures);
        is_whole = c.then-in-Some.ensures ∙ ap (λ (a : Seen). then_seen a (seen_of c.in-Some.rest)) c.then.ensures;
      });
    }
