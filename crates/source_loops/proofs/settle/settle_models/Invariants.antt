-- The models so far are settled.
use Rattle.std.proofs.Common.{ℕ, Vec, map}
use Rattle.std.specs.declared.alloc.Global.{Global}
use Rattle.source_nets.specs.Ports.{source_file, source_library}
use Rattle.source_loops.proofs.FileLemmas.{OrdersSoFar}
use Rattle.source_loops.proofs.settle.settle_models.Given as goal

abbrev pub invariant-loop-place : goal.invariant-loop-place
invariant-loop-place l = OrdersSoFar (source_file l.source) (source_library l.source) l.used l.place (map (λ (order : Vec ℕ Global). order.items) l.orders.items)
