use Rattle.std.proofs.Common.{◌≡◌, Bool, Some, true, false, get_or, sym, ◌∙◌, ap, arith}
use Rattle.netlist_spec.specs.Digits.{bit_of_char}
use Rattle.netlist_spec.specs.SourceRun.{Bits}
use Rattle.settings.proofs.Gives.{gives_none, gives_more}
use Rattle.settings.proofs.Rows.{zero_bits, zero_below, one_bits, one_below}
use Rattle.settings.proofs.bits.row_number.Goals as goal
use Rattle.settings.proofs.bits.row_number.Goals.{then-bit, else-bit}

pub returns-in_err-bit-clause-bits : goal.returns-in_err-bit-clause-bits
returns-in_err-bit-clause-bits c = rw c.from_residual.ensures (sym (gives_none bit_of_char c.args.text.now c.loop-j.j 0 (omega arith) (sym c.in_err-bit.ensures)))

pub loop-j-preserved : goal.loop-j-preserved
loop-j-preserved c =
    let text = c.args.text.now in
    let (read, below) = c.loop-j.invariant in
    elim c.if-bit.branch [
      | then-bit w ↦
          let here : bit_of_char (get_or text c.loop-j.j 0) ≡ Some true = sym c.in_ok-bit.ensures ∙ ap (λ (b : Bool). Some b) w.if-bit.true in
          rw w.row-is (
            gives_more bit_of_char text c.loop-j.j 0 _ true (omega arith) read here ∙ ap (λ (bits : Bits). Some bits) (sym (one_bits c.loop-j.j c.loop-j.row (omega arith) below)),
            one_below c.loop-j.j c.loop-j.row (omega arith) below,
          )
      | else-bit w ↦
          let here : bit_of_char (get_or text c.loop-j.j 0) ≡ Some false = sym c.in_ok-bit.ensures ∙ ap (λ (b : Bool). Some b) w.if-bit.false in
          rw w.row-is (
            gives_more bit_of_char text c.loop-j.j 0 _ false (omega arith) read here ∙ ap (λ (bits : Bits). Some bits) (sym (zero_bits c.loop-j.j c.loop-j.row below)),
            zero_below c.loop-j.j c.loop-j.row below,
          )
    ]
