use Rattle.std.proofs.Common.{◌≡◌, ℕ, ◌<◌, ◌^◌, map, take, All}
use Rattle.guard_spec.specs.Codes.{bits_of, checks_by}
use Rattle.block_code.proofs.code.sum_at.Given as goal

abbrev pub invariant-loop-i : goal.invariant-loop-i
invariant-loop-i l = record {
  sum : (r : ℕ) → bits_of r l.sum ≡ checks_by r (map (bits_of r) (take l.i l.rows)) (bits_of l.i l.word);
  within : (r : ℕ) → All (λ row. row < 2 ^ r) l.rows → l.sum < 2 ^ r;
}
