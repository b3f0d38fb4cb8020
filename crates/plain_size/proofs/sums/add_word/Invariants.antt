-- The bits so far.
use Rattle.std.proofs.Common.{◌≡◌, ◌<◌, ◌≤◌, List, All, length, map}
use Rattle.guard_spec.specs.Plain.{AreNets}
use Rattle.netlist_spec.specs.Netlist.{Name}
use Rattle.blif_read.specs.View.{name_at}
use Rattle.plain_size.specs.Cones.{AreCones, Source}
use Rattle.plain_size.specs.Walks.{stamps_of}
use Rattle.plain_size.proofs.SumLemmas.{IsSoFar}
use Rattle.plain_size.proofs.sums.add_word.Given as goal

abbrev pub invariant-loop-i : goal.invariant-loop-i
invariant-loop-i l = record {
  size : length (stamps_of l.walk) ≡ length (stamps_of l.initial.walk);
  fresh : All (λ s. s < l.total) (stamps_of l.walk);
  small : l.total ≤ 1000000;
  sum : (p : Source) (all some : List Name) → AreCones p l.cones → p.code ≡ l.code → map (name_at p.m.names) l.nets ≡ all → AreNets all l.word some → IsSoFar p some l.i l.start l.total;
}
