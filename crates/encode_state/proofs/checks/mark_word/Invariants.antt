-- The nets of the places so far are marked, and none of them was before.
use Rattle.std.proofs.Common.{◌≡◌, List, None, length, take, true}
use Rattle.netlist_spec.specs.Netlist.{Name, are_distinct}
use Rattle.encode_state.specs.Listed.{IsMarked, marks_of}
use Rattle.encode_state.proofs.checks.mark_word.Given as goal

abbrev pub invariant-loop-i : goal.invariant-loop-i
invariant-loop-i l =
    record {
      size : length l.marks ≡ length l.initial.marks;
      marked : (nets listed : List Name) → are_distinct nets ≡ true → l.initial.marks ≡ marks_of nets listed → IsMarked nets listed (take l.i-index l.word) l.marks None;
    }
