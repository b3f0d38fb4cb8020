-- The places so far have their values.
use Rattle.std.proofs.Common.{◌≡◌, ℕ, Bool, true, take, not, ◌||◌}
use Rattle.std.specs.Bool.{beq}
use Rattle.std.specs.List.{list_all, enumerate_from}
use Rattle.netlist_spec.specs.Covers.{has_bit}
use Rattle.lowering.proofs.narrow.row_fits.Given as goal

abbrev pub invariant-loop-i : goal.invariant-loop-i
invariant-loop-i l =
    list_all (λ (p : ℕ × Bool). not (has_bit l.row.care p.0) || beq p.1 (has_bit l.row.value p.0)) (enumerate_from 0 (take l.i l.bits)) ≡ true
