-- The words so far.
use Rattle.std.proofs.Common.{◌≡◌, ◌≤◌, ℕ, Vec, All, length, map}
use Rattle.std.specs.declared.alloc.Global.{Global}
use Rattle.guard_spec.specs.Words.{Layout}
use Rattle.netlist_spec.specs.Models.{output_nets}
use Rattle.blif_read.specs.View.{name_at}
use Rattle.plain_size.specs.Cones.{AreCones, Source}
use Rattle.plain_size.specs.Sums.{partial}
use Rattle.plain_size.specs.Walks.{stamps_of}
use Rattle.plain_size.proofs.sums.add_outputs.Given as goal

abbrev pub invariant-loop-word : goal.invariant-loop-word
invariant-loop-word l = record {
  size : length (stamps_of l.walk) ≡ length (stamps_of l.initial.walk);
  fresh : All (λ s. s ≤ l.total) (stamps_of l.walk);
  small : l.total ≤ 1000000;
  sum : (p : Source) (rails : ℕ) (k : Layout) → AreCones p l.cones → p.code ≡ l.code → p.state ≡ k.state → map (name_at p.m.names) l.nets ≡ output_nets p.m → k.output ≡ map (λ (w : Vec ℕ Global). w.items) l.words
      → partial p rails k (length k.state) 0 l.start → partial p rails k (length k.state) l.word-index l.total;
}
