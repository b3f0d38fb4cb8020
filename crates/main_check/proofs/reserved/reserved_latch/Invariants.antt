-- No latch so far has a reserved output.
use Rattle.std.proofs.Common.{◌≡◌, find, drop}
use Rattle.netlist_spec.specs.Netlist.{is_reserved}
use Rattle.blif_read.specs.declared.file.Located.{Located}
use Rattle.blif_read.specs.View.{statement_of}
use Rattle.line_order.specs.Marks.{latch_output_of}
use Rattle.main_check.proofs.Firsts.{first_some}
use Rattle.main_check.proofs.reserved.reserved_latch.Given as goal

abbrev pub invariant-loop-s : goal.invariant-loop-s
invariant-loop-s l =
    first_some (λ (s : Located). find is_reserved (latch_output_of (statement_of l.names s.what))) (drop l.s-index l.statements)
    ≡ first_some (λ (s : Located). find is_reserved (latch_output_of (statement_of l.names s.what))) l.statements
