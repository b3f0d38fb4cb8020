-- The statements so far are marked.
use Rattle.std.proofs.Common.{◌≡◌, List, ◌++◌, length, take}
use Rattle.std.specs.List.{flat_map}
use Rattle.netlist_spec.specs.Netlist.{Name}
use Rattle.blif_read.specs.declared.file.Located.{Located}
use Rattle.blif_read.specs.View.{statement_of}
use Rattle.line_order.specs.Marks.{Marks, controls_of}
use Rattle.line_order.proofs.marks.NetMarks.mark_controls.Given as goal

abbrev pub invariant-loop-s : goal.invariant-loop-s
invariant-loop-s l =
    record {
      size : length l.self ≡ length l.initial.self;
      marked : (all listed : List Name) → Marks all l.initial.self listed → Marks all l.self (listed ++ flat_map (λ (s : Located). controls_of (statement_of all s.what)) (take l.s-index l.statements));
    }
