-- No net so far is left out.
use Rattle.std.proofs.Common.{◌≡◌, List, None, map, take}
use Rattle.netlist_spec.specs.Netlist.{Name}
use Rattle.blif_read.specs.View.{name_at}
use Rattle.encode_state.specs.Listed.{first_left_out, marks_of}
use Rattle.encode_state.proofs.checks.check_all_marked.Given as goal

abbrev pub invariant-loop-i : goal.invariant-loop-i
invariant-loop-i l =
    (listed : List Name) → l.marks ≡ marks_of (map (name_at l.names) l.nets) listed → first_left_out (take l.i (map (name_at l.names) l.nets)) listed ≡ None
