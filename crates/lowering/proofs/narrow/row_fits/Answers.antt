use Rattle.std.proofs.Common.{◌≡◌, sym, ◌∙◌, arith, ℕ, Bool, not, ◌||◌, get_or, true, false}
use Rattle.std.specs.Bool.{beq}
use Rattle.netlist_spec.specs.Covers.{has_bit}
use Rattle.lowering.proofs.CoverLemmas.{all_next, all_fails, asks_other, asks_none, asks_same}
use Rattle.lowering.proofs.narrow.row_fits.Goals as goal
use Rattle.lowering.proofs.narrow.row_fits.Goals.{else-has_bit-via-then-has_bit+else-bit-has_bit, else-has_bit-via-else-has_bit}

pub returns-then-bit-has_bit : goal.returns-then-bit-has_bit
returns-then-bit-has_bit c =
    let row = c.args.row.now in
    let i = c.loop-i.i in
    let bit = get_or c.args.bits.now i false in
    let other : not (beq bit (has_bit row.value i)) ≡ true = rw (← c.has_bit-then-has_bit.ensures) c.if-bit-has_bit.true in
    sym (all_fails (λ (p : ℕ × Bool). not (has_bit row.care p.0) || beq p.1 (has_bit row.value p.0)) 0 c.args.bits.now i i (omega arith) c.loop-i-test.true
    (asks_other (has_bit row.care i) (has_bit row.value i) bit (sym c.if-has_bit.true ∙ c.has_bit.ensures) other))

pub loop-i-preserved : goal.loop-i-preserved
loop-i-preserved c =
    let row = c.args.row.now in
    let i = c.loop-i.i in
    let bit = get_or c.args.bits.now i false in
    let test : (ℕ × Bool) → Bool = λ p. not (has_bit row.care p.0) || beq p.1 (has_bit row.value p.0) in
    let more = λ (h : test (i, bit) ≡ true). all_next test c.args.bits.now i c.loop-i-test.true c.loop-i.invariant h in
    elim c.else-has_bit.branch [
      | else-has_bit-via-then-has_bit+else-bit-has_bit w ↦
          let other : not (beq bit (has_bit row.value i)) ≡ false = rw (← w.has_bit-then-has_bit.ensures) w.if-bit-has_bit.false in
          more (asks_same (has_bit row.care i) (has_bit row.value i) bit other)
      | else-has_bit-via-else-has_bit w ↦ more (asks_none (has_bit row.care i) (has_bit row.value i) bit (sym w.if-has_bit.false ∙ c.has_bit.ensures))
    ]
