-- The cycles so far were run.
use Rattle.std.proofs.Common.{[], ◌∷◌}
use Rattle.campaign.specs.Runs.{RunsOn}
use Rattle.campaign.proofs.sort.run_until_known.Given as goal

abbrev pub invariant-loop-i : goal.invariant-loop-i
invariant-loop-i l = RunsOn l.fn.task l.initial.runner l.fn.fork.cycle l.i (l.fn.fault ∷ []) l.part l.runner
