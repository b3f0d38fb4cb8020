use Rattle.std.proofs.Common.{◌+◌, arith, subst, List}
use Rattle.fault_sim.specs.declared.faults.CellFault.{CellFault}
use Rattle.campaign.specs.Runs.{IsCycle}
use Rattle.campaign.proofs.RunLemmas.{ran_more}
use Rattle.campaign.proofs.runner.run_on.Goals as goal

pub overflow_add-first : goal.overflow_add-first
overflow_add-first c =
    let few = c.requires.ready.few in
    let most = c.requires.cycles in
    let test = c.loop-i-test.true in
    omega arith

pub loop-i-preserved : goal.loop-i-preserved
loop-i-preserved c =
    let most = c.requires.cycles in
    let test = c.loop-i-test.true in
    ran_more c.runs_are_in_parts.ensures.grown c.outcomes_are_seen.ensures.parts c.outcomes_are_seen.ensures.last c.args.task.now c.args.runner.now c.loop-i.runner c.run_cycle-here.new.runner c.args.first c.loop-i.i c.args.faults.now c.loop-i.part c.run_cycle-here.result c.then-part.result
    (omega arith) c.loop-i.invariant (subst (λ (fs : List CellFault). IsCycle c.args.task.now c.loop-i.runner (c.args.first + c.loop-i.i) fs c.run_cycle-here.result c.run_cycle-here.new.runner) c.faults_in.ensures c.run_cycle-here.ensures) c.then-part.ensures
