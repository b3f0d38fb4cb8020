-- The coefficients so far.
use Rattle.std.proofs.Common.{◌≡◌, ◌≤◌, ◌*◌, ◌^◌}
use Rattle.std.specs.Prelude.{sum_by}
use Rattle.std.specs.List.{range_with_len}
use Rattle.guard_spec.specs.Plain.{choose}
use Rattle.plain_size.proofs.prices.binomials.Given as goal

abbrev pub invariant-loop-i : goal.invariant-loop-i
invariant-loop-i l = record {
  level : l.level ≡ choose l.n l.i;
  sum : l.sum ≡ sum_by (choose l.n) (range_with_len 1 l.i);
  within : l.sum ≤ l.i * 2 ^ 28;
}
