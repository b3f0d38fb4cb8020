-- The sum for the words so far.
use Rattle.std.proofs.Common.{◌≡◌, ◌+◌, ℕ, Vec, min, take}
use Rattle.std.specs.Prelude.{sum_by}
use Rattle.std.specs.declared.alloc.Global.{Global}
use Rattle.plain_size.specs.Prices.{watch_cost}
use Rattle.plain_size.proofs.prices.watched.Given as goal

abbrev pub invariant-loop-word : goal.invariant-loop-word
invariant-loop-word l = l.sum ≡ min (l.start + sum_by (λ (w : Vec ℕ Global). watch_cost l.code w.items) (take l.word-index l.words)) 1000001
