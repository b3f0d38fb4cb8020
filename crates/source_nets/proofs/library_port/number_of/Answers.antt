use Rattle.std.proofs.Common.{◌≡◌, ◌∙◌, sym, ap, ◌<◌, ◌≤◌, length, get_or, Some, None, arith, rules}
use Rattle.netlist_spec.specs.Digits.{decimal_of}
use Rattle.source_nets.proofs.DigitLemmas.{spelled, spells, written, no_leading_zero}
use Rattle.source_nets.proofs.library_port.number_of.Goals as goal
use Rattle.source_nets.proofs.library_port.number_of.Goals.{else-digits-gt1-via-then-digits-gt1+else-digits-eq48, else-digits-gt1-via-else-digits-gt1}

pub returns-in_err-number-clause-none : goal.returns-in_err-number-clause-none
returns-in_err-number-clause-none c =
    rw c.from_residual.ensures (λ n h e.
    let one : decimal_of 127 c.args.digits.now ≡ Some n = ap (decimal_of 127) (sym e) ∙ spelled n h in
    let none : None ≡ decimal_of 127 c.args.digits.now = c.in_err-number.ensures in
    cc (one, none))

pub returns-then-digits-eq48-clause-none : goal.returns-then-digits-eq48-clause-none
returns-then-digits-eq48-clause-none c = λ n h e.
    let zero : get_or c.args.digits.now 0 0 ≡ 48 = search rules in
    let long : 1 < length c.args.digits.now = search rules in
    let one = no_leading_zero n h (ap (λ w. get_or w 0 0) e ∙ zero) in
    let same = ap length e in
    omega arith

pub returns-clause-written : goal.returns-clause-written
returns-clause-written c =
    let told : decimal_of 127 c.args.digits.now ≡ Some c.in_ok-number.number = sym c.in_ok-number.ensures in
    let some = (spells c.args.digits.now c.in_ok-number.number told).some in
    written c.args.digits.now c.in_ok-number.number told (λ zero.
    elim c.else-digits-gt1.branch [
      | else-digits-gt1-via-then-digits-gt1+else-digits-eq48 w ↦ let other : (get_or c.args.digits.now 0 0 ≡ 48) → ⊥ = search rules in absurd (other zero)
      | else-digits-gt1-via-else-digits-gt1 w ↦ let short : length c.args.digits.now ≤ 1 = search rules in omega arith
    ])
