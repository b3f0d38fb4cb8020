use Rattle.std.proofs.Common.{refl}
use Rattle.campaign.proofs.RunLemmas.{restored_ready}
use Rattle.campaign.proofs.SortLemmas.{stops_sorted}
use Rattle.campaign.proofs.sort.outcome_under.Goals as goal

pub returns : goal.returns
returns c =
    stops_sorted c.faults_are_sorted_by_parts.ensures.parts c.faults_are_sorted_by_parts.ensures.late c.outcomes_are_seen.ensures.last c.settled_runs_are_sorted.ensures.sorted c.args.task.now c.args.runner.now
    (record { sim = c.restore.new.self; inputs = c.args.runner.now.inputs; outputs = c.args.runner.now.outputs }) c.run_until_known.new.runner c.args.fork.now c.args.fault c.run_until_known.result c.outcome.result
    c.requires.ready c.restore.ensures c.requires.cycle c.run_until_known.ensures c.outcome.ensures

pub run_until_known-requires-clause-ready : goal.run_until_known-requires-clause-ready
run_until_known-requires-clause-ready c =
    restored_ready c.args.task.now c.args.runner.now
    (record { sim = c.restore.new.self; inputs = c.args.runner.now.inputs; outputs = c.args.runner.now.outputs }) c.args.fork.now.stored.now c.requires.ready c.restore.ensures c.requires.stored refl refl
