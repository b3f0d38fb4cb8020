-- The words so far are near, and their check bits stand before the next ones.
use Rattle.std.proofs.Common.{◌≡◌, ℕ, ◌+◌, ◌*◌, ◌<◌, true, length, get_or, []}
use Rattle.std.specs.Prelude.{nat_le}
use Rattle.guard_spec.specs.Codes.{apart, encoded}
use Rattle.guard_spec.specs.Words.{bits_at, output_word}
use Rattle.campaign.proofs.cycle.is_near.Given as goal

abbrev pub invariant-loop-word : goal.invariant-loop-word
invariant-loop-word l =
    record {
      first : l.first ≡ length l.y + l.word-index * l.task.code.now.columns;
      near : (k : ℕ) → k < l.word-index → nat_le (apart (output_word l.task.code.now (length l.y) l.z (k, get_or l.task.layout.now.output k [])) (encoded l.task.code.now (bits_at (get_or l.task.layout.now.output k []) l.y))) l.task.bound ≡ true;
    }
