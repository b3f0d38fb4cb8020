-- The bytes so far are digits, and the value is theirs.
use Rattle.std.proofs.Common.{◌≡◌, ◌<◌, ◌^◌, true, take}
use Rattle.std.specs.List.{list_all}
use Rattle.netlist_spec.specs.Digits.{is_digit, digits_value}
use Rattle.imp_text.proofs.digits.decimal.Given as goal

abbrev pub invariant-loop-digit : goal.invariant-loop-digit
invariant-loop-digit l = record {
  digits : list_all is_digit (take l.digit-index l.word) ≡ true;
  value : l.value ≡ digits_value (take l.digit-index l.word);
  small : l.value < 10 ^ l.digit-index;
}
