use Rattle.distance.proofs.Least.{IsLeast}
use Rattle.distance.proofs.least_weight.distance.Given as goal

abbrev pub invariant-loop-u : goal.invariant-loop-u
invariant-loop-u l = IsLeast l.c l.u l.d l.least
