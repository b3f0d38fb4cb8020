-- The flags so far are the marks.
use Rattle.std.proofs.Common.{◌≡◌, List, ℕ, ◌<◌, [], length, get_or, false}
use Rattle.netlist_spec.specs.Netlist.{Name, stands_in}
use Rattle.line_order.specs.Marks.{Marks}
use Rattle.source_loops.proofs.given.flags_of.Given as goal

abbrev pub invariant-loop-k : goal.invariant-loop-k
invariant-loop-k l =
    record {
      size : length l.flags.items ≡ l.k;
      marked : (listed : List Name) → Marks l.names l.marks listed → (i : ℕ) → i < l.k → get_or l.flags.items i false ≡ stands_in (get_or l.names i []) listed;
    }
