-- The costs for the words so far.
use Rattle.std.proofs.Common.{◌≡◌, ◌++◌, ℕ, Vec, map, length, min, take}
use Rattle.std.specs.declared.alloc.Global.{Global}
use Rattle.guard_spec.specs.Plain.{corrector_cost}
use Rattle.plain_size.proofs.prices.push_correctors.Given as goal

abbrev pub invariant-loop-word : goal.invariant-loop-word
invariant-loop-word l = l.costs.items ≡ l.initial.costs.items ++ map (λ (w : Vec ℕ Global). min (corrector_cost l.code l.t (length w.items)) 1000001) (take l.word-index l.words)
