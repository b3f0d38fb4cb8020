-- The cycles so far were run.
use Rattle.campaign.specs.Runs.{RunsOn}
use Rattle.campaign.proofs.runner.run_on.Given as goal

abbrev pub invariant-loop-i : goal.invariant-loop-i
invariant-loop-i l = RunsOn l.fn.task l.initial.runner l.fn.first l.i l.fn.faults l.part l.runner
